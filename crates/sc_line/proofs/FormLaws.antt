-- Laws of forms: what they are made of by lawful forms is lawful.
use Rattle.std.proofs.Common.{◌≡◌, ℕ, zero, suc, ◌+◌, ◌-◌, ◌≤◌, true, false, List, [], ◌∷◌, ◌++◌, map, length, None, refl, sym, ap, subst, ◌∙◌, append_assoc, append-nil, arith}
use Rattle.std.specs.List.{AllByRecursion}
use Rattle.sc_line.specs.Lines.{Line, count_line, count_of_line, lacks, AllLack}
use Rattle.sc_line.specs.Formats.{Format, told, a_line, Reads, IsShort, IsLineKind}
use Rattle.sc_line.proofs.NumberLaws.{IsCountInRange, good_literal, literal_inverse, count_is_kind}
use Rattle.sc_line.specs.Forms.{LineKind, literal_due, one_due, lines_after, more_due, many_due, counted_from, Both, and_also, and_then, both_due, IsLawful}
use Rattle.sc_line.proofs.FormatLaws.{told_is, line_told, nothing_more, short_more}

-- no line feed in lines, and none in others: none in both, one behind the other
pub lacks_both : (xs ys : List Line) → AllLack 10 xs → AllLack 10 ys → AllLack 10 (xs ++ ys)
lacks_both [] ys h k = k
lacks_both (x ∷ xs) ys h k = (h.0, lacks_both xs ys h.1 k)

-- ---- one format after another

-- lines of the first format, with those of the second behind them, are read in both together
pub reads_then : {A V : Type 0} (f : Format A) (rest : A → Format V) (g : Format V) (xs ys : List Line) (x : A) → Reads f xs (told x) → Reads (rest x) ys g → Reads (and_then f rest) (xs ++ ys) g
reads_then (told y) rest g [] ys x r s = subst (λ (z : _). Reads (rest z) ys g) (sym (told_is y x r)) s
reads_then (told y) rest g (l ∷ xs) ys x r s = absurd r
reads_then (a_line fault next) rest g [] ys x r s = absurd (line_told fault next x r)
reads_then (a_line fault next) rest g (l ∷ xs) ys x r s = (r.0, reads_then (next l) rest g xs ys x r.1 s)

-- lines that tell a value are those of the first format, and then those of the second
pub record IsReadThen {A V : Type 0} (f : Format A) (rest : A → Format V) (lines : List Line) (v : V) : Type 0 where
  pub first : A
  pub front : List Line
  pub back : List Line
  pub are : lines ≡ front ++ back
  pub reads_first : Reads f front (told first)
  pub reads_rest : Reads (rest first) back (told v)

-- lines that are read in both together are cut where the first format tells its value
pub split_then : {A V : Type 0} (f : Format A) (rest : A → Format V) (lines : List Line) (v : V) → Reads (and_then f rest) lines (told v) → IsReadThen f rest lines v
split_then (told x) rest lines v r = record { first = x; front = []; back = lines; are = refl; reads_first = refl; reads_rest = r }
split_then (a_line fault next) rest [] v r = absurd (line_told fault (λ l. and_then (next l) rest) v r)
split_then (a_line fault next) rest (l ∷ lines) v r =
    let more = split_then (next l) rest lines v r.1 in
    record {
      first = more.first;
      front = l ∷ more.front;
      back = more.back;
      are = ap (λ (ls : List Line). l ∷ ls) more.are;
      reads_first = (r.0, more.reads_first);
      reads_rest = more.reads_rest;
    }

-- both together read at most the lines of the first and those of the second
pub short_then : {A V : Type 0} (m n : ℕ) (f : Format A) (rest : A → Format V) → IsShort m f → ((lines : List Line) (x : A) → Reads f lines (told x) → IsShort n (rest x)) → IsShort (m + n) (and_then f rest)
short_then m n (told x) rest h k = short_more n (m + n) (rest x) (omega arith) (k [] x refl)
short_then zero n (a_line fault next) rest h k = absurd h
short_then (suc m) n (a_line fault next) rest h k =
    let one : suc (m + n) ≡ suc m + n = omega arith in
    subst (λ (l : ℕ). IsShort l (and_then (a_line fault next) rest)) one
    (λ line good. short_then m n (next line) rest (h line good) (λ lines x r. k (line ∷ lines) x (good, r)))

-- ---- lawful forms

module _ {A B : Type 0} (a : A → List Line) (d : Format A) (InA : A → Type 0) (m : ℕ) (b : A → B → List Line) (e : A → Format B) (InB : A → B → Type 0) (n : ℕ) where
  abbrev both_lines : Both A B → List Line
  both_lines v = a v.first ++ b v.first v.second

  -- the first value is in range, and the second in the range that goes by the first
  abbrev pub InBoth : Both A B → Type 0
  InBoth v = InA v.first × InB v.first v.second

  -- what lines that tell both values are
  record AreBoth (ls : List Line) (v : Both A B) : Type 0 where
    are : ls ≡ both_lines v
    in_range : InBoth v

  second_lines : (x : A) (v : Both A B) (lines : List Line) → IsLawful (b x) (e x) (InB x) n → Reads (and_then (e x) (λ y. told (and_also x y))) lines (told v) → (lines ≡ b x v.second) × (x ≡ v.first) × InB x v.second
  second_lines x v lines law r =
      let s = split_then (e x) (λ y. told (and_also x y)) lines v r in
      let end = nothing_more (and_also x s.first) v s.back s.reads_rest in
      let second : s.first ≡ v.second = ap (λ (w : Both A B). w.second) end.1 in (
        s.are ∙ (λ i. s.front ++ end.0 i) ∙ append-nil s.front ∙ law.lines_are s.front s.first s.reads_first ∙ ap (b x) second,
        ap (λ (w : Both A B). w.first) end.1,
        subst (InB x) second (law.in_range s.front s.first s.reads_first),
      )

  both_are : IsLawful a d InA m → ((x : A) → InA x → IsLawful (b x) (e x) (InB x) n) → (ls : List Line) (v : Both A B) → Reads (both_due d e) ls (told v) → AreBoth ls v
  both_are first second ls v r =
      let s = split_then d (λ x. and_then (e x) (λ y. told (and_also x y))) ls v r in
      let x_in = first.in_range s.front s.first s.reads_first in
      let rest = second_lines s.first v s.back (second s.first x_in) s.reads_rest in
      record {
        are = s.are ∙ (λ i. first.lines_are s.front s.first s.reads_first i ++ rest.0 i) ∙ ap (λ (x : A). a x ++ b x v.second) rest.1;
        in_range = subst (λ (x : A). InA x × InB x v.second) rest.1 (x_in, rest.2);
      }

  -- two lawful forms, one behind the other, are lawful together
  pub lawful_both : IsLawful a d InA m → ((x : A) → InA x → IsLawful (b x) (e x) (InB x) n) → IsLawful both_lines (both_due d e) InBoth (m + n)
  lawful_both first second = record {
    reads = λ v h.
        reads_then d (λ x. and_then (e x) (λ y. told (and_also x y))) (told v) (a v.first) (b v.first v.second) v.first (first.reads v.first h.0)
        (subst (λ (ls : List Line). Reads (and_then (e v.first) (λ y. told (and_also v.first y))) ls (told v)) (append-nil (b v.first v.second))
        (reads_then (e v.first) (λ y. told (and_also v.first y)) (told v) (b v.first v.second) [] v.second ((second v.first h.0).reads v.second h.1) refl));
    lines_are = λ ls v r. (both_are first second ls v r).are;
    in_range = λ ls v r. (both_are first second ls v r).in_range;
    no_feed = λ v h. lacks_both (a v.first) (b v.first v.second) (first.no_feed v.first h.0) ((second v.first h.0).no_feed v.second h.1);
    short =
        short_then m n d (λ x. and_then (e x) (λ y. told (and_also x y))) first.short
        (λ lines x r. subst (λ (k : ℕ). IsShort k (and_then (e x) (λ y. told (and_also x y)))) (nothing_added n)
        (short_then n 0 (e x) (λ y. told (and_also x y)) (second x (first.in_range lines x r)).short (λ ls y s. tt)));
  }
    where
      nothing_added : (k : ℕ) → k + 0 ≡ k
      nothing_added k = omega arith

-- the same of another record of the same parts
module _ {V W : Type 0} (a : V → List Line) (d : Format V) (InV : V → Type 0) (m : ℕ) (made : V → W) (parts : W → V) (InW : W → Type 0) where
  record AreParts (ls : List Line) (w : W) : Type 0 where
    are : ls ≡ a (parts w)
    in_range : InW w

  parts_are : IsLawful a d InV m → ((v : V) → parts (made v) ≡ v) → ((v : V) → InV v → InW (made v)) → (ls : List Line) (w : W) → Reads (and_then d (λ v. told (made v))) ls (told w) → AreParts ls w
  parts_are law back range ls w r =
      let s = split_then d (λ v. told (made v)) ls w r in
      let end = nothing_more (made s.first) w s.back s.reads_rest in
      record {
        are = s.are ∙ (λ i. s.front ++ end.0 i) ∙ append-nil s.front ∙ law.lines_are s.front s.first s.reads_first ∙ ap a (sym (back s.first) ∙ ap parts end.1);
        in_range = subst InW end.1 (range s.first (law.in_range s.front s.first s.reads_first));
      }

  pub lawful_as : IsLawful a d InV m → ((v : V) → parts (made v) ≡ v) → ((w : W) → made (parts w) ≡ w) → ((v : V) → InV v → InW (made v)) → ((w : W) → InW w → InV (parts w))
      → IsLawful (λ w. a (parts w)) (and_then d (λ v. told (made v))) InW (m + 0)
  lawful_as law back forth range parts_in = record {
    reads = λ w h.
        subst (λ (ls : List Line). Reads (and_then d (λ v. told (made v))) ls (told w)) (append-nil (a (parts w)))
        (reads_then d (λ v. told (made v)) (told w) (a (parts w)) [] (parts w) (law.reads (parts w) (parts_in w h)) (ap told (forth w)));
    lines_are = λ ls w r. (parts_are law back range ls w r).are;
    in_range = λ ls w r. (parts_are law back range ls w r).in_range;
    no_feed = λ w h. law.no_feed (parts w) (parts_in w h);
    short = short_then m 0 d (λ v. told (made v)) law.short (λ lines v r. tt);
  }

-- the same with another word for the range
pub lawful_where : {V : Type 0} (lines : V → List Line) (due : Format V) (InRange InV : V → Type 0) (most : ℕ) → IsLawful lines due InRange most → ((v : V) → InRange v → InV v) → ((v : V) → InV v → InRange v) → IsLawful lines due InV most
lawful_where lines due InRange InV most law to from = record {
  reads = λ v h. law.reads v (from v h);
  lines_are = law.lines_are;
  in_range = λ ls v r. to v (law.in_range ls v r);
  no_feed = λ v h. law.no_feed v (from v h);
  short = law.short;
}

-- ---- a line that is due word by word

-- a line without line feeds, due word by word, is a lawful form
pub lawful_literal : (text : Line) → lacks 10 text ≡ true → IsLawful (λ (u : Unit {0}). text ∷ []) (literal_due text false) (λ u. Unit {0}) 1
lawful_literal text lack = record {
  reads = λ u h. (good_literal text, refl);
  lines_are = λ ls u r. literal_are ls u r;
  in_range = λ ls u r. tt;
  no_feed = λ u h. (lack, tt);
  short = λ line good. tt;
}
  where
    literal_are : (ls : List Line) (u : Unit {0}) → Reads (literal_due text false) ls (told u) → ls ≡ text ∷ []
    literal_are [] u r = absurd (line_told _ _ u r)
    literal_are (l ∷ ls) u r =
        let end = nothing_more tt u ls r.1 in
        λ i. literal_inverse text l r.0 i ∷ end.0 i

-- ---- one line

module _ {A : Type 0} (kind : LineKind A) (InRange : A → Type 0) (law : IsLineKind kind.fault kind.value kind.line InRange) where
  one_are : (ls : List Line) (x : A) → Reads (one_due kind None) ls (told x) → (ls ≡ kind.line x ∷ []) × InRange x
  one_are [] x r = absurd (line_told _ _ x r)
  one_are (l ∷ ls) x r =
      let end = nothing_more (kind.value l) x ls r.1 in
      ((λ i. (law.line_is l r.0 ∙ ap kind.line end.1) i ∷ end.0 i), subst InRange end.1 (law.in_range l r.0))

  -- one line of a kind is a lawful form
  pub lawful_one : ((x : A) → lacks 10 (kind.line x) ≡ true) → IsLawful (λ x. kind.line x ∷ []) (one_due kind None) InRange 1
  lawful_one lack = record {
    reads = λ x h. (law.good x h, ap told (law.value_is x h));
    lines_are = λ ls x r. (one_are ls x r).0;
    in_range = λ ls x r. (one_are ls x r).1;
    no_feed = λ x h. (lack x, tt);
    short = λ line good. tt;
  }

-- ---- so many lines

-- values in range behind others
abbrev pub AllAfter : {A : Type 0} → (List A → A → Type 0) → List A → List A → Type 0
AllAfter InRange before [] = Unit {0}
AllAfter InRange before (x ∷ xs) = InRange before x × AllAfter InRange (before ++ x ∷ []) xs

-- where the range of a value does not go by those before it, all are in it; and back
pub all_after : {A : Type 0} (P : A → Type 0) (before xs : List A) → AllByRecursion P xs → AllAfter (λ b. P) before xs
all_after P before [] h = tt
all_after P before (x ∷ xs) h = (h.0, all_after P (before ++ x ∷ []) xs h.1)

pub all_of : {A : Type 0} (P : A → Type 0) (before xs : List A) → AllAfter (λ b. P) before xs → AllByRecursion P xs
all_of P before [] h = tt
all_of P before (x ∷ xs) h = (h.0, all_of P (before ++ x ∷ []) xs h.1)

-- where the line of a value does not go by those before it, the lines are those of the values
pub lines_map : {A : Type 0} (kind : List A → LineKind A) (line_for : A → Line) → ((before : List A) (x : A) → (kind before).line x ≡ line_for x) → (before xs : List A) → lines_after kind before xs ≡ map line_for xs
lines_map kind line_for same before [] = refl
lines_map kind line_for same before (x ∷ xs) = λ i. same before x i ∷ lines_map kind line_for same (before ++ x ∷ []) xs i

-- behind any values before it, a line is of a kind that tells the values in range
abbrev pub AreKinds : {A : Type 0} → (List A → LineKind A) → (List A → A → Type 0) → Type 0
AreKinds kind InRange = (before : List _) → IsLineKind (kind before).fault (kind before).value (kind before).line (InRange before)

module _ {A : Type 0} (kind : List A → LineKind A) (InRange : List A → A → Type 0) (law : AreKinds kind InRange) (lack : (before : List A) (x : A) → lacks 10 ((kind before).line x) ≡ true) where
  reads_more : (before xs : List A) → AllAfter InRange before xs → Reads (more_due kind (length xs) before) (lines_after kind before xs) (told (before ++ xs))
  reads_more before [] h = ap told (sym (append-nil before))
  reads_more before (x ∷ xs) h =
      let k = law before in
      let rest = subst (λ (ys : List A). Reads (more_due kind (length xs) (before ++ x ∷ [])) (lines_after kind (before ++ x ∷ []) xs) (told ys)) (append_assoc before (x ∷ []) xs) (reads_more (before ++ x ∷ []) xs h.1) in
      (k.good x h.0, subst (λ (y : A). Reads (more_due kind (length xs) (before ++ y ∷ [])) (lines_after kind (before ++ x ∷ []) xs) (told (before ++ x ∷ xs))) (sym (k.value_is x h.0)) rest)

  record AreMore (n : ℕ) (before : List A) (ls : List Line) (all : List A) : Type 0 where
    items : List A
    all_is : all ≡ before ++ items
    are : ls ≡ lines_after kind before items
    count : length items ≡ n
    in_range : AllAfter InRange before items

  more_are : (n : ℕ) (before : List A) (ls : List Line) (all : List A) → Reads (more_due kind n before) ls (told all) → AreMore n before ls all
  more_are zero before ls all r =
      let end = nothing_more before all ls r in
      record { items = []; all_is = sym end.1 ∙ sym (append-nil before); are = end.0; count = refl; in_range = tt }
  more_are (suc n) before [] all r = absurd (line_told _ _ all r)
  more_are (suc n) before (l ∷ ls) all r =
      let k = law before in
      let x = (kind before).value l in
      let more = more_are n (before ++ x ∷ []) ls all r.1 in
      record {
        items = x ∷ more.items;
        all_is = more.all_is ∙ append_assoc before (x ∷ []) more.items;
        are = λ i. k.line_is l r.0 i ∷ more.are i;
        count = ap suc more.count;
        in_range = (k.in_range l r.0, more.in_range);
      }

  lack_after : (before xs : List A) → AllLack 10 (lines_after kind before xs)
  lack_after before [] = tt
  lack_after before (x ∷ xs) = (lack before x, lack_after (before ++ x ∷ []) xs)

  short_lines : (n : ℕ) (before : List A) → IsShort n (more_due kind n before)
  short_lines zero before = tt
  short_lines (suc n) before = λ line good. short_lines n (before ++ (kind before).value line ∷ [])

  -- so many values in range
  pub record AreMany (n : ℕ) (xs : List A) : Type 0 where
    pub count : length xs ≡ n
    pub in_range : AllAfter InRange [] xs

  -- so many lines, each of the kind that the values before it say, are a lawful form
  pub lawful_many : (n most : ℕ) → n ≤ most → IsLawful (lines_after kind []) (many_due kind n []) (AreMany n) most
  lawful_many n most few = record {
    reads = λ xs h. subst (λ (k : ℕ). Reads (more_due kind k []) (lines_after kind [] xs) (told xs)) (h.count ∙ all n) (reads_more [] xs h.in_range);
    lines_are = λ ls xs r. let m = more_are (n - 0) [] ls xs r in m.are ∙ ap (lines_after kind []) (sym m.all_is);
    in_range = λ ls xs r.
        let m = more_are (n - 0) [] ls xs r in
        subst (AreMany n) (sym m.all_is) (record { count = m.count ∙ sym (all n); in_range = m.in_range });
    no_feed = λ xs h. lack_after [] xs;
    short = short_more (n - 0) most (more_due kind (n - 0) []) (omega arith) (short_lines (n - 0) []);
  }
    where
      all : (k : ℕ) → k ≡ k - 0
      all k = omega arith

  -- at most so many values in range
  pub record AreCounted (most : ℕ) (xs : List A) : Type 0 where
    pub few : length xs ≤ most
    pub in_range : AllAfter InRange [] xs

  counted_are : (name : List ℕ) (most : ℕ) → lacks 32 name ≡ true → (ls : List Line) (xs : List A) → Reads (counted_from name most kind None []) ls (told xs) → (ls ≡ count_line name (length xs) ∷ lines_after kind [] xs) × AreCounted most xs
  counted_are name most named [] xs r = absurd (line_told _ _ xs r)
  counted_are name most named (l ∷ ls) xs r =
      let k = count_is_kind name 0 most named in
      let few = k.in_range l r.0 in
      let many = lawful_many (count_of_line l) (count_of_line l) (omega arith) in
      let items = many.in_range ls xs r.1 in (
        (λ i. (k.line_is l r.0 ∙ ap (count_line name) (sym items.count)) i ∷ many.lines_are ls xs r.1 i),
        record { few = subst (λ (n : ℕ). n ≤ most) (sym items.count) few.high_end; in_range = items.in_range },
      )

  -- a count and as many such lines are a lawful form
  pub lawful_counted : (name : List ℕ) (most : ℕ) → lacks 32 name ≡ true → ((n : ℕ) → lacks 10 (count_line name n) ≡ true) → IsLawful (λ xs. count_line name (length xs) ∷ lines_after kind [] xs) (counted_from name most kind None []) (AreCounted most) (suc most)
  lawful_counted name most named unended =
      let k = count_is_kind name 0 most named in
      record {
        reads = λ xs h.
            let range : IsCountInRange 0 most (length xs) = record { low_end = omega arith; high_end = h.few } in
            let many = lawful_many (length xs) (length xs) (omega arith) in (
              k.good (length xs) range,
              subst (λ (n : ℕ). Reads (many_due kind n []) (lines_after kind [] xs) (told xs)) (sym (k.value_is (length xs) range)) (many.reads xs (record { count = refl; in_range = h.in_range })),
            );
        lines_are = λ ls xs r. (counted_are name most named ls xs r).0;
        in_range = λ ls xs r. (counted_are name most named ls xs r).1;
        no_feed = λ xs h. (unended (length xs), lack_after [] xs);
        short = λ line good. (lawful_many (count_of_line line) most (k.in_range line good).high_end).short;
      }

-- ---- so many lines of one kind

-- values in a range, of which there are so many, and at most so many
pub record AreAll {A : Type 0} (P : A → Type 0) (n : ℕ) (xs : List A) : Type 0 where
  pub count : length xs ≡ n
  pub all : AllByRecursion P xs

pub record AreFew {A : Type 0} (P : A → Type 0) (most : ℕ) (xs : List A) : Type 0 where
  pub few : length xs ≤ most
  pub all : AllByRecursion P xs

module _ {A : Type 0} (kind : List A → LineKind A) (P : A → Type 0) (law : AreKinds kind (λ b. P)) (lack : (before : List A) (x : A) → lacks 10 ((kind before).line x) ≡ true) where
  -- so many lines in one range are a lawful form, and so are a count and as many lines
  pub lawful_all : (n most : ℕ) → n ≤ most → IsLawful (lines_after kind []) (many_due kind n []) (AreAll P n) most
  lawful_all n most few =
      lawful_where (lines_after kind []) (many_due kind n []) (AreMany kind (λ b. P) law lack n) (AreAll P n) most (lawful_many kind (λ b. P) law lack n most few)
      (λ xs h. record { count = h.count; all = all_of P [] xs h.in_range })
      (λ xs h. record { count = h.count; in_range = all_after P [] xs h.all })

  pub lawful_few : (name : List ℕ) (most : ℕ) → lacks 32 name ≡ true → ((n : ℕ) → lacks 10 (count_line name n) ≡ true) → IsLawful (λ xs. count_line name (length xs) ∷ lines_after kind [] xs) (counted_from name most kind None []) (AreFew P most) (suc most)
  lawful_few name most named unended =
      lawful_where (λ xs. count_line name (length xs) ∷ lines_after kind [] xs) (counted_from name most kind None []) (AreCounted kind (λ b. P) law lack most) (AreFew P most) (suc most) (lawful_counted kind (λ b. P) law lack name most named unended)
      (λ xs h. record { few = h.few; all = all_of P [] xs h.in_range })
      (λ xs h. record { few = h.few; in_range = all_after P [] xs h.all })
