-- A chain text read line by line.
use Rattle.std.proofs.Common.{◌≡◌, ℕ, zero, suc, ◌+◌, ◌<◌, ◌≤◌, List, [], ◌∷◌, ◌++◌, length, get_or, take, drop, Option, Some, None, IsSome, ℤ, pos, refl, sym, ◌∙◌, ap, subst, arith, add-one, zero-add, append_assoc, inl, inr}
use Rattle.std.specs.List.{All, slice_split, onto_first}
use Rattle.std.proofs.Math.Seq.{drop-cons, take-length}
use Rattle.std.proofs.Math.ListN.{drop_of_length-le}
use Rattle.std.proofs.lemmas.List.{append-nil, length-drop}
use Rattle.std.proofs.lemmas.List.Elements.{All-nil, All-push, All-append}
use Rattle.std.proofs.lemmas.List.Splits.{slice_split-cons_yes, slice_split-cons_no}
use Rattle.std.proofs.lemmas.Bool.{cases_Bool, cases_lt, cases_order, cond-true, cond-false}
use Rattle.std.proofs.lemmas.Bool.Decides.{nat_tests}
use Rattle.std.proofs.lemmas.Int.{ints}
use Rattle.std.proofs.lemmas.Option.{same_Some, none-some}
use Rattle.sc_theory.specs.Words.{Word}
use Rattle.sc_words.specs.declared.lines.RawLine.{RawLine}
use Rattle.sc_line.specs.declared.fault.Kind.{Kind}
use Rattle.sc_words.specs.Spelling.{word_of}
use Rattle.sc_words.specs.ChainText.{Line, Field, Entry, is_line_feed, text_lines, without_empty_last, line_at, line_fields, coefficient_of, is_comment, with_coefficient, fields_case, line_case, line_kind, raw_line, raw_lines, IsChainText, IsFirstMalformed, IsRawLine}
use Rattle.sc_words.proofs.CoefficientLaws.{IsSmall, coefficient_small}
use Rattle.sc_words.proofs.SpellingLaws.{HasGenerators, spelled_generators}

-- ---- a text has no more lines than bytes

last_one : (l : Line) → length (without_empty_last (l ∷ [])) ≤ 1
last_one l = grind (arith, nat_tests)

last_le : (x : ℕ) (parts : List Line) → length (without_empty_last (onto_first x parts)) ≤ suc (length (without_empty_last parts))
last_le x [] = omega arith
last_le x (p ∷ []) = omega (arith, last_one (x ∷ p))
last_le x (p ∷ q ∷ more) = omega arith

pub lines_le : (text : List ℕ) → length (text_lines text) ≤ length text
lines_le [] = omega arith
lines_le (b ∷ text) = elim (cases_Bool (is_line_feed b)) [
  | inl feed ↦
      (let parts : slice_split is_line_feed (b ∷ text) ≡ [] ∷ slice_split is_line_feed text = slice_split-cons_yes is_line_feed b text feed in
      rw parts (omega (arith, empty_le (slice_split is_line_feed text), lines_le text)))
  | inr other ↦
      (let parts : slice_split is_line_feed (b ∷ text) ≡ onto_first b (slice_split is_line_feed text) = slice_split-cons_no is_line_feed b text other in
      rw parts (omega (arith, last_le b (slice_split is_line_feed text), lines_le text)))
]
  where
    empty_le : (parts : List Line) → length (without_empty_last ([] ∷ parts)) ≤ suc (length (without_empty_last parts))
    empty_le [] = omega arith
    empty_le (p ∷ more) = omega arith

-- ---- one line more

raw_lines-take : (m n : ℕ) (ls : List Line) → n < length ls → raw_lines m (take (suc n) ls) ≡ raw_lines m (take n ls) ++ raw_line (n + m) (line_case (get_or ls n []))
raw_lines-take m n [] h = absurd (omega arith)
raw_lines-take m zero (l ∷ ls) h = rw (append-nil, zero-add) refl
raw_lines-take m (suc n) (l ∷ ls) h =
    let rest = raw_lines-take (suc m) n ls (omega arith) in
    let number : n + suc m ≡ suc n + m = omega arith in
    rw rest (sym (append_assoc (raw_line m (line_case l)) (raw_lines (suc m) (take n ls)) (raw_line (n + suc m) (line_case (get_or ls n []))))
    ∙ ap (λ (k : ℕ). (raw_line m (line_case l) ++ raw_lines (suc m) (take n ls)) ++ raw_line k (line_case (get_or ls n []))) number)

-- ---- what a line gives is in range

given_ranges : (o : Option ℤ) (v : Option Word) (z : ℤ) (w : Word) → ((y : ℤ) → o ≡ Some y → IsSmall y) → ((u : Word) → v ≡ Some u → HasGenerators u) →
    with_coefficient o v ≡ Some (Some (z, w)) → IsSmall z × HasGenerators w
given_ranges None v z w small letters e = absurd (none-some _ e)
given_ranges (Some y) None z w small letters e = absurd (none-some _ e)
given_ranges (Some y) (Some u) z w small letters e =
    let same : (y, u) ≡ (z, w) = same_Some _ _ (same_Some _ _ e) in
    (subst IsSmall (ap (λ (p : ℤ × Word). p.0) same) (small y refl), subst HasGenerators (ap (λ (p : ℤ × Word). p.1) same) (letters u refl))

one_small : IsSmall (pos 1)
one_small = record { low = omega (arith, ints); high = omega (arith, ints) }

fields_ranges : (fs : List Field) (z : ℤ) (w : Word) → fields_case fs ≡ Some (Some (z, w)) → IsSmall z × HasGenerators w
fields_ranges [] z w e = absurd (none-some (z, w) (same_Some _ _ e))
fields_ranges (f ∷ []) z w e = given_ranges (Some (pos 1)) (word_of f) z w (λ y p. subst IsSmall (same_Some _ _ p) one_small) (spelled_generators f) e
fields_ranges (n ∷ f ∷ []) z w e = given_ranges (coefficient_of n) (word_of f) z w (coefficient_small n) (spelled_generators f) e
fields_ranges (n ∷ f ∷ g ∷ more) z w e = absurd (none-some _ e)

line_ranges : (line : Line) (z : ℤ) (w : Word) → line_case line ≡ Some (Some (z, w)) → IsSmall z × HasGenerators w
line_ranges line z w e = elim (cases_Bool (is_comment (line_fields line))) [
  | inl comment ↦
      (let nothing : line_case line ≡ Some None = cond-true (is_comment (line_fields line)) (Some None) (fields_case (line_fields line)) comment in
      absurd (none-some (z, w) (same_Some _ _ (sym nothing ∙ e))))
  | inr other ↦ fields_ranges (line_fields line) z w (sym (cond-false (is_comment (line_fields line)) (Some None) (fields_case (line_fields line)) other) ∙ e)
]

raw_line_ranges : (n : ℕ) (o : Option Entry) → ((z : ℤ) (w : Word) → o ≡ Some (Some (z, w)) → IsSmall z × HasGenerators w) → All IsRawLine (raw_line n o)
raw_line_ranges n (Some (Some (z, w))) h =
    let ranges = h z w refl in
    All-push IsRawLine [] (record { line = n; coefficient = z; word = w }) (All-nil IsRawLine) (record { low = ranges.0.low; high = ranges.0.high; generators = ranges.1 })
raw_line_ranges n (Some None) h = All-nil IsRawLine
raw_line_ranges n None h = All-nil IsRawLine

-- so all lines of a text are in range
pub raw_lines_in_range : (n : ℕ) (ls : List Line) → All IsRawLine (raw_lines n ls)
raw_lines_in_range n [] = All-nil IsRawLine
raw_lines_in_range n (l ∷ ls) =
    All-append IsRawLine (raw_line n (line_case l)) (raw_lines (suc n) ls) (raw_line_ranges n (line_case l) (line_ranges l)) (raw_lines_in_range (suc n) ls)

-- ---- a text read as far as n lines

-- the first n lines of the text gave what was read, and the rest has the lines behind them
pub record IsReading (text rest : List ℕ) (n : ℕ) (read : List RawLine) : Type 0 where
  pub rest_is : text_lines rest ≡ drop n (text_lines text)
  pub within : n ≤ length (text_lines text)
  pub cases : (k : ℕ) → 1 ≤ k → k ≤ n → IsSome (line_case (line_at text k))
  pub entries : read ≡ raw_lines 1 (take n (text_lines text))
  pub ranges : All IsRawLine read

-- the next line
pub record IsNext (text rest : List ℕ) (n : ℕ) (line : Line) : Type 0 where
  pub inside : n < length (text_lines text)
  pub line_is : line_at text (n + 1) ≡ line
  pub rest_is : text_lines rest ≡ drop (n + 1) (text_lines text)

-- the first line of the rest is the next line of the text
pub next : (text old rest : List ℕ) (n : ℕ) (read : List RawLine) (line : Line) → IsReading text old n read → text_lines old ≡ line ∷ text_lines rest →
    IsNext text rest n line
next text old rest n read line r e = elim (cases_lt n (length (text_lines text))) [
  | inl lt ↦
      (let first : drop n (text_lines text) ≡ get_or (text_lines text) n [] ∷ drop (suc n) (text_lines text) = drop-cons (text_lines text) n [] lt in
      let both : line ∷ text_lines rest ≡ get_or (text_lines text) n [] ∷ drop (suc n) (text_lines text) = sym e ∙ r.rest_is ∙ first in
      let here : get_or (text_lines text) n [] ≡ line = cc in
      let after : text_lines rest ≡ drop (suc n) (text_lines text) = cc in
      record { inside = lt; line_is = rw add-one here; rest_is = rw add-one after })
  | inr ge ↦
      (let none : drop n (text_lines text) ≡ [] = drop_of_length-le (text_lines text) ge in
      let clash : line ∷ text_lines rest ≡ [] = sym e ∙ r.rest_is ∙ none in
      absurd (cc))
]

-- the cases of one line more
cases_more : (text : List ℕ) (n : ℕ) → ((k : ℕ) → 1 ≤ k → k ≤ n → IsSome (line_case (line_at text k))) → IsSome (line_case (line_at text (n + 1))) →
    (k : ℕ) → 1 ≤ k → k ≤ n + 1 → IsSome (line_case (line_at text k))
cases_more text n below here k low high = elim (cases_lt n k) [
  | inl last ↦ (let at : n + 1 ≡ k = omega arith in subst (λ (j : ℕ). IsSome (line_case (line_at text j))) at here)
  | inr before ↦ below k low before
]

entries_more : (text : List ℕ) (n : ℕ) → n < length (text_lines text) →
    raw_lines 1 (take (n + 1) (text_lines text)) ≡ raw_lines 1 (take n (text_lines text)) ++ raw_line (n + 1) (line_case (line_at text (n + 1)))
entries_more text n h =
    let same : suc n ≡ n + 1 = omega arith in
    subst (λ (m : ℕ). raw_lines 1 (take m (text_lines text)) ≡ raw_lines 1 (take n (text_lines text)) ++ raw_line (n + 1) (line_case (line_at text m))) same (raw_lines-take 1 n (text_lines text) h)

-- a line that says nothing
pub after_nothing : (text old rest : List ℕ) (n : ℕ) (read : List RawLine) (line : Line) → IsReading text old n read → text_lines old ≡ line ∷ text_lines rest →
    line_case line ≡ Some None → IsReading text rest (n + 1) read
after_nothing text old rest n read line r e c =
    let at : IsNext text rest n line = next text old rest n read line r e in
    let here : line_case (line_at text (n + 1)) ≡ Some None = ap line_case at.line_is ∙ c in
    record {
      rest_is = at.rest_is;
      within = omega (arith, at.inside);
      cases = cases_more text n r.cases (rw here refl);
      entries = r.entries ∙ sym (entries_more text n at.inside ∙ ap (λ (o : Option Entry). raw_lines 1 (take n (text_lines text)) ++ raw_line (n + 1) o) here ∙ append-nil _);
      ranges = r.ranges;
    }

-- a line with a word
pub after_entry : (text old rest : List ℕ) (n : ℕ) (read : List RawLine) (line : Line) (z : ℤ) (w : Word) → IsReading text old n read →
    text_lines old ≡ line ∷ text_lines rest → line_case line ≡ Some (Some (z, w)) → IsReading text rest (n + 1) (read ++ record { line = n + 1; coefficient = z; word = w } ∷ [])
after_entry text old rest n read line z w r e c =
    let at : IsNext text rest n line = next text old rest n read line r e in
    let here : line_case (line_at text (n + 1)) ≡ Some (Some (z, w)) = ap line_case at.line_is ∙ c in
    let ranges = line_ranges line z w c in
    let entry : RawLine = record { line = n + 1; coefficient = z; word = w } in
    let kept : IsRawLine entry = record { low = ranges.0.low; high = ranges.0.high; generators = ranges.1 } in
    record {
      rest_is = at.rest_is;
      within = omega (arith, at.inside);
      cases = cases_more text n r.cases (rw here refl);
      entries = ap (λ (before : List RawLine). before ++ entry ∷ []) r.entries ∙ sym (entries_more text n at.inside ∙ ap (λ (o : Option Entry). raw_lines 1 (take n (text_lines text)) ++ raw_line (n + 1) o) here);
      ranges = All-push IsRawLine read entry r.ranges kept;
    }

-- a line without a case
pub at_malformed : (text old rest : List ℕ) (n : ℕ) (read : List RawLine) (line : Line) (kind : Kind) → IsReading text old n read →
    text_lines old ≡ line ∷ text_lines rest → line_case line ≡ None → kind ≡ line_kind line → IsFirstMalformed text (n + 1) kind
at_malformed text old rest n read line kind r e c k =
    let at : IsNext text rest n line = next text old rest n read line r e in
    record {
      counted = omega arith;
      in_text = omega (arith, at.inside);
      no_case = ap line_case at.line_is ∙ c;
      before = λ j low high. r.cases j low (omega arith);
      kind_is = k ∙ ap line_kind (sym at.line_is);
    }

-- the end of the text
pub at_end : (text rest : List ℕ) (n : ℕ) (read : List RawLine) → IsReading text rest n read → text_lines rest ≡ [] → IsChainText text read
at_end text rest n read r e =
    let gone : length (drop n (text_lines text)) ≡ 0 = ap length (sym r.rest_is ∙ e) in
    let all : n ≡ length (text_lines text) = omega (arith, length-drop n (text_lines text), r.within) in
    record {
      cases = λ k low high. r.cases k low (omega arith);
      entries = r.entries ∙ ap (raw_lines 1) (ap (λ (m : ℕ). take m (text_lines text)) all ∙ take-length (text_lines text));
    }

-- ---- a text is good or has one first malformed line

some_none : {X : Type 0} (o : Option X) → IsSome o → o ≡ None → ⊥
some_none None s e = absurd (cc)
some_none (Some x) s e = none-some x (sym e)

-- a text whose lines all have a case has no first malformed line
pub good_or_malformed : (text : List ℕ) (read : List RawLine) (line : ℕ) (kind : Kind) → IsChainText text read → IsFirstMalformed text line kind → ⊥
good_or_malformed text read line kind g m = some_none (line_case (line_at text line)) (g.cases line m.counted m.in_text) m.no_case

-- no text has two first malformed lines, nor two kinds of one
pub malformed_same : (text : List ℕ) (i j : ℕ) (k l : Kind) → IsFirstMalformed text i k → IsFirstMalformed text j l → (i ≡ j) × (k ≡ l)
malformed_same text i j k l p q =
    let same : i ≡ j = elim (cases_order i j) [
      | inl e ↦ e
      | inr ne ↦ elim ne [
        | inl lt ↦ absurd (some_none (line_case (line_at text i)) (q.before i p.counted lt) p.no_case)
        | inr gt ↦ absurd (some_none (line_case (line_at text j)) (p.before j q.counted gt) q.no_case)
      ]
    ] in
    (same, p.kind_is ∙ ap (λ (n : ℕ). line_kind (line_at text n)) same ∙ sym q.kind_is)
