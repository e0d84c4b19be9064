-- A text and its first line, a line and its first field.
use Rattle.std.proofs.Common.{◌≡◌, ◌≢◌, ℕ, suc, ◌+◌, ◌<◌, ◌≤◌, Bool, true, false, not, List, [], ◌∷◌, length, get_or, take, drop, Some, None, refl, sym, ◌∙◌, ap, subst, arith, inl, inr}
use Rattle.std.proofs.Math.Seq.{drop-cons}
use Rattle.std.proofs.lemmas.List.{length-take, length-drop}
use Rattle.std.proofs.Math.ListN.{drop_of_length-le}
use Rattle.std.specs.Prelude.{filter, position, ◌==◌}
use Rattle.std.specs.List.{slice_split, position_or_len, before_first, after_first, All}
use Rattle.std.proofs.lemmas.Bool.{cases_lt, cases_Bool, lt-ltb, le-ltb, ne_eqb, not-true, true≢false}
use Rattle.std.proofs.lemmas.List.Splits.{slice_split-cons_yes, slice_split_none, slice_split_first, length-slice_split}
use Rattle.std.proofs.lemmas.List.Sums.{fails_before_first, passes_at_first}
use Rattle.sc_words.specs.ChainText.{Line, Field, is_line_feed, is_blank, without_empty_last, text_lines, fields}

-- what a position says
pub record IsAt {X : Type 0} (p : X → Bool) (xs : List X) (e : ℕ) : Type 0 where
  pub at : e ≡ position_or_len p xs
  pub inside : e < length xs

-- a place that was found is the first that passes the test, in the list; where none was, it is past the end
pub position_some : {X : Type 0} (p : X → Bool) (xs : List X) (e : ℕ) → position p xs ≡ Some e → IsAt p xs e
position_some p xs e h = elim (cases_lt (position_or_len p xs) (length xs)) [
  | inl lt ↦
      (let is : position p xs ≡ Some (position_or_len p xs) = rw (lt-ltb (position_or_len p xs) (length xs) lt) refl in
      let same : e ≡ position_or_len p xs = cc in
      record { at = same; inside = omega arith })
  | inr ge ↦
      (let is : position p xs ≡ None = rw (le-ltb (position_or_len p xs) (length xs) ge) refl in
      absurd (cc))
]

pub position_none : {X : Type 0} (p : X → Bool) (xs : List X) → position p xs ≡ None → length xs ≤ position_or_len p xs
position_none p xs h = elim (cases_lt (position_or_len p xs) (length xs)) [
  | inl lt ↦
      (let is : position p xs ≡ Some (position_or_len p xs) = rw (lt-ltb (position_or_len p xs) (length xs) lt) refl in
      absurd (cc))
  | inr ge ↦ ge
]

fails_before : {X : Type 0} (p : X → Bool) (xs : List X) → length xs ≤ position_or_len p xs → All (λ x. p x ≡ false) xs
fails_before p xs h = λ k d lt. fails_before_first p xs k d (omega arith)

-- ---- lines

parts_nonempty : {X : Type 0} (p : X → Bool) (xs : List X) → 0 < length (slice_split p xs)
parts_nonempty p xs = omega (arith, length-slice_split p xs)

keeps_first : (l : Line) (parts : List Line) → 0 < length parts → without_empty_last (l ∷ parts) ≡ l ∷ without_empty_last parts
keeps_first l [] h = absurd (omega arith)
keeps_first l (m ∷ more) h = refl

nonempty_kept : (l : Line) → 0 < length l → without_empty_last (l ∷ []) ≡ l ∷ []
nonempty_kept l h = rw (ne_eqb (length l) 0 (λ e. omega arith)) refl

-- the first line of a text, and the lines after it
pub line_before_feed : (text : List ℕ) (e : ℕ) → position is_line_feed text ≡ Some e → text_lines text ≡ take e text ∷ text_lines (drop (e + 1) text)
line_before_feed text e h =
    let p : IsAt is_line_feed text e = position_some is_line_feed text e h in
    let found : position_or_len is_line_feed text < length text = omega (arith, p.at, p.inside) in
    let Goal : ℕ → Type 0 = λ n. text_lines text ≡ take n text ∷ text_lines (drop (n + 1) text) in
    let first : Goal (position_or_len is_line_feed text) =
    ap without_empty_last (slice_split_first is_line_feed text 0 found)
    ∙ keeps_first (before_first is_line_feed text) (slice_split is_line_feed (after_first is_line_feed text)) (parts_nonempty is_line_feed (after_first is_line_feed text)) in
    subst Goal (sym p.at) first

-- a text without a line feed is one line
pub line_without_feed : (text : List ℕ) → 0 < length text → position is_line_feed text ≡ None → text_lines text ≡ text ∷ text_lines []
line_without_feed text h e =
    ap without_empty_last (slice_split_none is_line_feed text (fails_before is_line_feed text (position_none is_line_feed text e))) ∙ nonempty_kept text h

-- ---- fields

abbrev is_nonblank : ℕ → Bool
is_nonblank b = not (is_blank b)

abbrev is_some_field : Field → Bool
is_some_field f = not (length f == 0)

blank_skipped : (b : ℕ) (bs : List ℕ) → is_blank b ≡ true → fields (b ∷ bs) ≡ fields bs
blank_skipped b bs h = ap (filter is_some_field) (slice_split-cons_yes is_blank b bs h)

-- blanks at the front make no field
pub blanks_skipped : (bs : List ℕ) → fields bs ≡ fields (drop (position_or_len is_nonblank bs) bs)
blanks_skipped [] = refl
blanks_skipped (b ∷ bs) = elim (cases_Bool (is_blank b)) [
  | inl blank ↦
      (let one : position_or_len is_nonblank (b ∷ bs) ≡ suc (position_or_len is_nonblank bs) = rw blank (omega arith) in
      rw one (blank_skipped b bs blank ∙ blanks_skipped bs))
  | inr other ↦
      (let none : position_or_len is_nonblank (b ∷ bs) ≡ 0 = rw other refl in
      rw none refl)
]

-- a line of blanks has no field
pub fields_of_blanks : (bs : List ℕ) → position is_nonblank bs ≡ None → fields bs ≡ []
fields_of_blanks bs h =
    let all : drop (position_or_len is_nonblank bs) bs ≡ [] = drop_of_length-le bs (position_none is_nonblank bs h) in
    blanks_skipped bs ∙ ap fields all

-- the first field of what begins with no blank
kept : (f : Field) (parts : List Field) → 0 < length f → filter is_some_field (f ∷ parts) ≡ f ∷ filter is_some_field parts
kept f parts h = rw (ne_eqb (length f) 0 (λ e. omega arith)) refl

-- what is left behind the blanks, which begins with no blank
pub record IsSkipped (bs : List ℕ) (s : ℕ) : Type 0 where
  pub inside : s < length bs
  pub same : fields bs ≡ fields (drop s bs)
  pub begins : is_blank (get_or (drop s bs) 0 0) ≡ false

skipped : (bs : List ℕ) (s : ℕ) → position is_nonblank bs ≡ Some s → IsSkipped bs s
skipped bs s h =
    let p : IsAt is_nonblank bs s = position_some is_nonblank bs s h in
    let found : position_or_len is_nonblank bs < length bs = omega (arith, p.at, p.inside) in
    let passes : is_nonblank (get_or bs (position_or_len is_nonblank bs) 0) ≡ true = passes_at_first is_nonblank bs 0 found in
    let here : is_blank (get_or bs s 0) ≡ false = not-true _ (subst (λ (n : ℕ). is_nonblank (get_or bs n 0) ≡ true) (sym p.at) passes) in
    let first : drop s bs ≡ get_or bs s 0 ∷ drop (suc s) bs = drop-cons bs s 0 p.inside in
    record {
      inside = p.inside;
      same = blanks_skipped bs ∙ ap (λ (n : ℕ). fields (drop n bs)) (sym p.at);
      begins = rw first here;
    }

-- the first field goes from the first byte that is no blank to the next blank, or to the end
pub field_before_blank : (bs : List ℕ) (s e : ℕ) → position is_nonblank bs ≡ Some s → position is_blank (drop s bs) ≡ Some e →
    fields bs ≡ take e (drop s bs) ∷ fields (drop (e + 1) (drop s bs))
field_before_blank bs s e hs he =
    let from : List ℕ = drop s bs in
    let k : IsSkipped bs s = skipped bs s hs in
    let p : IsAt is_blank from e = position_some is_blank from e he in
    let found : position_or_len is_blank from < length from = omega (arith, p.at, p.inside) in
    let passes : is_blank (get_or from e 0) ≡ true = subst (λ (n : ℕ). is_blank (get_or from n 0) ≡ true) (sym p.at) (passes_at_first is_blank from 0 found) in
    let later : e ≢ 0 = λ z. (let at0 : is_blank (get_or from 0 0) ≡ true = subst (λ (n : ℕ). is_blank (get_or from n 0) ≡ true) z passes in let no0 : is_blank (get_or from 0 0) ≡ false = k.begins in let clash : true ≡ false = sym at0 ∙ no0 in true≢false clash) in
    let some : 0 < length (before_first is_blank from) = omega (arith, length-take (position_or_len is_blank from) from, p.at) in
    let Goal : ℕ → Type 0 = λ n. fields from ≡ take n from ∷ fields (drop (n + 1) from) in
    let first : Goal (position_or_len is_blank from) =
    ap (filter is_some_field) (slice_split_first is_blank from 0 found) ∙ kept (before_first is_blank from) (slice_split is_blank (after_first is_blank from)) some in
    k.same ∙ subst Goal (sym p.at) first

pub field_without_blank : (bs : List ℕ) (s : ℕ) → position is_nonblank bs ≡ Some s → position is_blank (drop s bs) ≡ None →
    fields bs ≡ drop s bs ∷ fields []
field_without_blank bs s hs he =
    let from : List ℕ = drop s bs in
    let k : IsSkipped bs s = skipped bs s hs in
    let some : 0 < length from = omega (arith, length-drop s bs, k.inside) in
    let one : fields from ≡ from ∷ [] = ap (filter is_some_field) (slice_split_none is_blank from (fails_before is_blank from (position_none is_blank from he))) ∙ kept from [] some in
    k.same ∙ one
