-- The words of a chain text have no more letters than the text has bytes.
use Rattle.std.proofs.Common.{◌≡◌, ℕ, suc, ◌+◌, ◌-◌, ◌≤◌, Bool, not, ◌==◌, List, [], ◌∷◌, length, take, Option, Some, None, refl, sym, ap, arith, inl, inr, ℤ}
use Rattle.std.specs.Prelude.{slice_index, filter}
use Rattle.std.specs.List.{sum_by, slice_split, onto_first}
use Rattle.std.specs.Str.Lines.{strip_carriage_return}
use Rattle.std.proofs.lemmas.Bool.{cases_Bool, cond-true, cond-false, cond_both}
use Rattle.std.proofs.lemmas.List.{length-take}
use Rattle.std.proofs.lemmas.List.Splits.{slice_split-cons_yes, slice_split-cons_no}
use Rattle.std.proofs.lemmas.List.Sums.{sum_by-append, sum_by-cons}
use Rattle.std.proofs.lemmas.Option.{same_Some, none-some}
use Rattle.sc_theory.specs.declared.Letter.{Letter}
use Rattle.sc_theory.specs.Words.{Word}
use Rattle.sc_words.specs.declared.lines.RawLine.{RawLine}
use Rattle.sc_words.specs.Spelling.{letter_of, with_first, word_of}
use Rattle.sc_words.specs.ChainText.{Line, Field, Entry, without_empty_last, text_lines, line_fields, coefficient_of, is_comment, with_coefficient, fields_case, line_case, raw_line, raw_lines, is_line_feed, is_blank, IsChainText}
use Rattle.sc_reduce.specs.Lines.{letters_of}

-- the elements of several lists
abbrev sizes : List (List ℕ) → ℕ
sizes parts = sum_by (λ part. length part) parts

sizes-cons : (part : List ℕ) (parts : List (List ℕ)) → sizes (part ∷ parts) ≡ length part + sizes parts
sizes-cons part parts = sum_by-cons (λ (p : List ℕ). length p) part parts

-- ---- parts of a list

sizes-onto_first : (x : ℕ) (parts : List (List ℕ)) → sizes (onto_first x parts) ≤ suc (sizes parts)
sizes-onto_first x [] = omega arith
sizes-onto_first x (part ∷ parts) = omega (arith, sizes-cons (x ∷ part) parts, sizes-cons part parts)

sizes-slice_split : (p : ℕ → Bool) (xs : List ℕ) → sizes (slice_split p xs) ≤ length xs
sizes-slice_split p [] = omega arith
sizes-slice_split p (x ∷ xs) = elim (cases_Bool (p x)) [
  | inl cut ↦ omega (arith, ap sizes (slice_split-cons_yes p x xs cut), sizes-cons [] (slice_split p xs), sizes-slice_split p xs)
  | inr kept ↦ omega (arith, ap sizes (slice_split-cons_no p x xs kept), sizes-onto_first x (slice_split p xs), sizes-slice_split p xs)
]

sizes-filter : (p : List ℕ → Bool) (parts : List (List ℕ)) → sizes (filter p parts) ≤ sizes parts
sizes-filter p [] = omega arith
sizes-filter p (part ∷ parts) = elim (cases_Bool (p part)) [
  | inl kept ↦ omega (arith, ap sizes (cond-true (p part) (part ∷ filter p parts) (filter p parts) kept), sizes-cons part (filter p parts), sizes-cons part parts, sizes-filter p parts)
  | inr left ↦ omega (arith, ap sizes (cond-false (p part) (part ∷ filter p parts) (filter p parts) left), sizes-cons part parts, sizes-filter p parts)
]

length-strip_carriage_return : (line : Line) → length (strip_carriage_return line) ≤ length line
length-strip_carriage_return line =
    cond_both (slice_index line (length line - 1) == 13) (take (length line - 1) line) line (λ (l : Line). length l ≤ length line)
    (λ e. omega (arith, length-take (length line - 1) line))
    (λ e. omega arith)

sizes-line_fields : (line : Line) → sizes (line_fields line) ≤ length line
sizes-line_fields line =
    let body = strip_carriage_return line in
    omega (arith, sizes-filter (λ f. not (length f == 0)) (slice_split is_blank body), sizes-slice_split is_blank body, length-strip_carriage_return line)

sizes-without_empty_last : (ls : List Line) → sizes (without_empty_last ls) ≤ sizes ls
sizes-without_empty_last [] = omega arith
sizes-without_empty_last (l ∷ []) =
    cond_both (length l == 0) [] (l ∷ []) (λ (ls : List Line). sizes ls ≤ sizes (l ∷ [])) (λ e. omega arith) (λ e. omega arith)
sizes-without_empty_last (l ∷ m ∷ more) =
    omega (arith, sizes-cons l (without_empty_last (m ∷ more)), sizes-cons l (m ∷ more), sizes-without_empty_last (m ∷ more))

sizes-text_lines : (text : List ℕ) → sizes (text_lines text) ≤ length text
sizes-text_lines text = omega (arith, sizes-without_empty_last (slice_split is_line_feed text), sizes-slice_split is_line_feed text)

-- ---- the word of a field, of fields, of a line

with_first_parts : (o : Option Letter) (p : Option Word) (w : Word) → with_first o p ≡ Some w → (v : Word) × (p ≡ Some v) × (length w ≡ suc (length v))
with_first_parts None p w h = absurd (none-some w h)
with_first_parts (Some x) None w h = absurd (none-some w h)
with_first_parts (Some x) (Some v) w h = (v, refl, ap length (sym (same_Some (x ∷ v) w h)))

length-word_of : (f : Field) (w : Word) → word_of f ≡ Some w → length w ≡ length f
length-word_of [] w h = ap length (sym (same_Some [] w h))
length-word_of (b ∷ f) w h =
    let parts = with_first_parts (letter_of b) (word_of f) w h in
    omega (arith, parts.2, length-word_of f parts.0 parts.1)

-- the letters of an entry
abbrev entry_letters : Option Entry → ℕ
entry_letters None = 0
entry_letters (Some None) = 0
entry_letters (Some (Some e)) = length e.1

letters_with_coefficient : (z : Option ℤ) (o : Option Word) (n : ℕ) → ((w : Word) → o ≡ Some w → length w ≤ n) → entry_letters (with_coefficient z o) ≤ n
letters_with_coefficient None o n h = omega arith
letters_with_coefficient (Some z) None n h = omega arith
letters_with_coefficient (Some z) (Some w) n h = h w refl

letters_of_fields : (fs : List Field) → entry_letters (fields_case fs) ≤ sizes fs
letters_of_fields [] = omega arith
letters_of_fields (f ∷ []) =
    letters_with_coefficient (Some _) (word_of f) (sizes (f ∷ [])) (λ w e. omega (arith, length-word_of f w e, sizes-cons f []))
letters_of_fields (n ∷ f ∷ []) =
    letters_with_coefficient (coefficient_of n) (word_of f) (sizes (n ∷ f ∷ []))
    (λ w e. omega (arith, length-word_of f w e, sizes-cons n (f ∷ []), sizes-cons f []))
letters_of_fields (n ∷ f ∷ g ∷ more) = omega arith

letters_of_case : (line : Line) → entry_letters (line_case line) ≤ length line
letters_of_case line =
    cond_both (is_comment (line_fields line)) (Some None) (fields_case (line_fields line)) (λ (e : Option Entry). entry_letters e ≤ length line)
    (λ e. omega arith)
    (λ e. omega (arith, letters_of_fields (line_fields line), sizes-line_fields line))

letters_of_raw_line : (n : ℕ) (e : Option Entry) → letters_of (raw_line n e) ≡ entry_letters e
letters_of_raw_line n None = refl
letters_of_raw_line n (Some None) = refl
letters_of_raw_line n (Some (Some e)) = omega arith

letters_of_raw_lines : (n : ℕ) (ls : List Line) → letters_of (raw_lines n ls) ≤ sizes ls
letters_of_raw_lines n [] = omega arith
letters_of_raw_lines n (l ∷ ls) =
    omega (arith, sum_by-append (λ (r : RawLine). length r.word) (raw_line n (line_case l)) (raw_lines (suc n) ls), letters_of_raw_line n (line_case l), letters_of_case l, letters_of_raw_lines (suc n) ls, sizes-cons l ls)

-- the words of a chain text have no more letters than the text has bytes
pub letters_of_text : (text : List ℕ) (read : List RawLine) → IsChainText text read → letters_of read ≤ length text
letters_of_text text read h = omega (arith, ap letters_of h.entries, letters_of_raw_lines 1 (text_lines text), sizes-text_lines text)
