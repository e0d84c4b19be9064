-- Laws of a number with the lines that it counts, and of blocks of lines.
use Rattle.std.proofs.Common.{◌≡◌, ℕ, zero, suc, ◌+◌, ◌*◌, ◌≤◌, true, List, [], ◌∷◌, ◌++◌, length, refl, sym, ap, subst, ◌∙◌, append_assoc, append-nil, arith}
use Rattle.sc_line.specs.Lines.{Line, count_line, count_of_line, lacks, AllLack}
use Rattle.sc_line.specs.Formats.{Format, told, Reads, IsShort}
use Rattle.sc_line.proofs.NumberLaws.{IsCountInRange, count_is_kind}
use Rattle.sc_line.specs.Forms.{IsLawful}
use Rattle.sc_line.proofs.FormatLaws.{line_told, nothing_more, short_more}
use Rattle.sc_line.proofs.FormLaws.{lacks_both, reads_then, split_then, short_then, AllAfter}
use Rattle.sc_fan.specs.Blocks.{headed_due, blocks_due}

-- the lines of blocks behind others
abbrev pub blocks_lines : {A : Type 0} → (List A → A → List Line) → List A → List A → List Line
blocks_lines lines before [] = []
blocks_lines lines before (x ∷ xs) = lines before x ++ blocks_lines lines (before ++ x ∷ []) xs

-- ---- a number, and what it counts

module _ {V : Type 0} (name : List ℕ) (low high : ℕ) (count : V → ℕ) (lines : ℕ → V → List Line) (rest : ℕ → Format V) (InV : ℕ → V → Type 0) (m : ℕ) where
  abbrev pub headed_lines : V → List Line
  headed_lines v = count_line name (count v) ∷ lines (count v) v

  pub record IsHeaded (v : V) : Type 0 where
    pub counted : IsCountInRange low high (count v)
    pub in_range : InV (count v) v

  record AreHeaded (ls : List Line) (v : V) : Type 0 where
    are : ls ≡ headed_lines v
    in_range : IsHeaded v

  headed_are : lacks 32 name ≡ true → ((n : ℕ) → IsCountInRange low high n → IsLawful (lines n) (rest n) (InV n) m) → ((n : ℕ) (v : V) → InV n v → count v ≡ n) → (ls : List Line) (v : V) → Reads (headed_due name low high rest) ls (told v) → AreHeaded ls v
  headed_are named law counts [] v r = absurd (line_told _ _ v r)
  headed_are named law counts (l ∷ ls) v r =
      let k = count_is_kind name low high named in
      let range = k.in_range l r.0 in
      let more = law (count_of_line l) range in
      let within = more.in_range ls v r.1 in
      let n_is = counts (count_of_line l) v within in
      record {
        are = (λ i. (k.line_is l r.0 ∙ ap (count_line name) (sym n_is)) i ∷ (more.lines_are ls v r.1 ∙ ap (λ (n : ℕ). lines n v) (sym n_is)) i);
        in_range = record { counted = subst (IsCountInRange low high) (sym n_is) range; in_range = subst (λ (n : ℕ). InV n v) (sym n_is) within };
      }

  -- a number and behind it the lines that it counts are lawful, where such lines are lawful for each number
  pub lawful_headed : lacks 32 name ≡ true → ((n : ℕ) → lacks 10 (count_line name n) ≡ true) → ((n : ℕ) → IsCountInRange low high n → IsLawful (lines n) (rest n) (InV n) m) → ((n : ℕ) (v : V) → InV n v → count v ≡ n)
      → IsLawful headed_lines (headed_due name low high rest) IsHeaded (suc m)
  lawful_headed named unended law counts =
      let k = count_is_kind name low high named in
      record {
        reads = λ v h. (
          k.good (count v) h.counted,
          subst (λ (n : ℕ). Reads (rest n) (lines (count v) v) (told v)) (sym (k.value_is (count v) h.counted)) ((law (count v) h.counted).reads v h.in_range),
        );
        lines_are = λ ls v r. (headed_are named law counts ls v r).are;
        in_range = λ ls v r. (headed_are named law counts ls v r).in_range;
        no_feed = λ v h. (unended (count v), (law (count v) h.counted).no_feed v h.in_range);
        short = λ line good. (law (count_of_line line) (k.in_range line good)).short;
      }

-- ---- blocks

module _ {A : Type 0} (lines : List A → A → List Line) (block : List A → Format A) (InRange : List A → A → Type 0) (m : ℕ) (law : (before : List A) → IsLawful (lines before) (block before) (InRange before) m) where
  reads_blocks : (before xs : List A) → AllAfter InRange before xs → Reads (blocks_due block (length xs) before) (blocks_lines lines before xs) (told (before ++ xs))
  reads_blocks before [] h = ap told (sym (append-nil before))
  reads_blocks before (x ∷ xs) h =
      let all = subst (λ (ys : List A). Reads (blocks_due block (length xs) (before ++ x ∷ [])) (blocks_lines lines (before ++ x ∷ []) xs) (told ys)) (append_assoc before (x ∷ []) xs) (reads_blocks (before ++ x ∷ []) xs h.1) in
      reads_then (block before) (λ y. blocks_due block (length xs) (before ++ y ∷ [])) (told (before ++ x ∷ xs)) (lines before x) (blocks_lines lines (before ++ x ∷ []) xs) x ((law before).reads x h.0) all

  record AreBlocksAfter (n : ℕ) (before : List A) (ls : List Line) (all : List A) : Type 0 where
    items : List A
    all_is : all ≡ before ++ items
    are : ls ≡ blocks_lines lines before items
    count : length items ≡ n
    in_range : AllAfter InRange before items

  blocks_are : (n : ℕ) (before : List A) (ls : List Line) (all : List A) → Reads (blocks_due block n before) ls (told all) → AreBlocksAfter n before ls all
  blocks_are zero before ls all r =
      let end = nothing_more before all ls r in
      record { items = []; all_is = sym end.1 ∙ sym (append-nil before); are = end.0; count = refl; in_range = tt }
  blocks_are (suc n) before ls all r =
      let s = split_then (block before) (λ x. blocks_due block n (before ++ x ∷ [])) ls all r in
      let x = s.first in
      let more = blocks_are n (before ++ x ∷ []) s.back all s.reads_rest in
      record {
        items = x ∷ more.items;
        all_is = more.all_is ∙ append_assoc before (x ∷ []) more.items;
        are = s.are ∙ (λ i. (law before).lines_are s.front x s.reads_first i ++ more.are i);
        count = ap suc more.count;
        in_range = ((law before).in_range s.front x s.reads_first, more.in_range);
      }

  blocks_lack : (before xs : List A) → AllAfter InRange before xs → AllLack 10 (blocks_lines lines before xs)
  blocks_lack before [] h = tt
  blocks_lack before (x ∷ xs) h = lacks_both (lines before x) (blocks_lines lines (before ++ x ∷ []) xs) ((law before).no_feed x h.0) (blocks_lack (before ++ x ∷ []) xs h.1)

  blocks_short : (n : ℕ) (before : List A) → IsShort (n * m) (blocks_due block n before)
  blocks_short zero before = tt
  blocks_short (suc n) before =
      let one : m + n * m ≡ suc n * m = omega arith in
      subst (λ (k : ℕ). IsShort k (blocks_due block (suc n) before)) one
      (short_then m (n * m) (block before) (λ x. blocks_due block n (before ++ x ∷ [])) (law before).short (λ ls x r. blocks_short n (before ++ x ∷ [])))

  -- so many blocks in range
  pub record AreBlocks (n : ℕ) (xs : List A) : Type 0 where
    pub count : length xs ≡ n
    pub in_range : AllAfter InRange [] xs

  -- n blocks one after another are lawful, where a block is, whatever blocks stand before it
  pub lawful_blocks : (n most : ℕ) → n * m ≤ most → IsLawful (blocks_lines lines []) (blocks_due block n []) (AreBlocks n) most
  lawful_blocks n most few = record {
    reads = λ xs h. subst (λ (k : ℕ). Reads (blocks_due block k []) (blocks_lines lines [] xs) (told xs)) h.count (reads_blocks [] xs h.in_range);
    lines_are = λ ls xs r. let b = blocks_are n [] ls xs r in b.are ∙ ap (blocks_lines lines []) (sym b.all_is);
    in_range = λ ls xs r. let b = blocks_are n [] ls xs r in subst (AreBlocks n) (sym b.all_is) (record { count = b.count; in_range = b.in_range });
    no_feed = λ xs h. blocks_lack [] xs h.in_range;
    short = short_more (n * m) most (blocks_due block n []) few (blocks_short n []);
  }
