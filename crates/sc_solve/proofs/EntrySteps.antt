-- The entries of a list of numbers, one place after another.
use Rattle.std.proofs.Common.{◌≡◌, ℕ, Bool, true, false, not, ℤ, pos, refl, ◌≢◌, ◌+◌, [], ◌∷◌, cond, arith, ◌++◌, sym, ap, ◌∙◌}
use Rattle.std.specs.Ordering.{int_eq}
use Rattle.std.proofs.lemmas.Bool.Decides.{Decides-int_eq}
use Rattle.sc_solve.specs.PolygonColumns.{is_entry, entries_by}
use Rattle.std.proofs.lemmas.List.FromFn.{filter_of_map_range_with_len_more}
use Rattle.std.proofs.lemmas.Bool.{cond-true, cond-false}
use Rattle.sc_basis.specs.Bases.{Column as Entries}
use Rattle.std.proofs.lemmas.List.{append-nil}

entry_test : (n : ℕ) (z : ℤ) → z ≢ pos 0 → is_entry (n, z) ≡ true
entry_test n z some = by (int_eq z (pos 0)) refl
  where
    by : (b : Bool) → int_eq z (pos 0) ≡ b → not b ≡ true
    by true e = absurd (some ((Decides-int_eq z (pos 0)).0 e))
    by false e = refl

more : (x : ℕ → ℤ) (n : ℕ) → entries_by x (n + 1) ≡ entries_by x n ++ cond (is_entry (n, x n)) ((n, x n) ∷ []) []
more x n = filter_of_map_range_with_len_more is_entry (λ (k : ℕ). (k, x k)) 0 n n (omega arith)

pub entries_more : (x : ℕ → ℤ) (n : ℕ) (z : ℤ) → z ≡ x n → z ≢ pos 0 → entries_by x (n + 1) ≡ entries_by x n ++ (n, z) ∷ []
entries_more x n z e some =
    more x n
    ∙ ap (λ (es : Entries). entries_by x n ++ es)
    (cond-true (is_entry (n, x n)) ((n, x n) ∷ []) [] (ap (λ (y : ℤ). is_entry (n, y)) (sym e) ∙ entry_test n z some) ∙ ap (λ (y : ℤ). (n, y) ∷ []) (sym e))

pub entries_same : (x : ℕ → ℤ) (n : ℕ) (z : ℤ) → z ≡ x n → z ≡ pos 0 → entries_by x (n + 1) ≡ entries_by x n
entries_same x n z e none =
    more x n
    ∙ ap (λ (es : Entries). entries_by x n ++ es)
    (cond-false (is_entry (n, x n)) ((n, x n) ∷ []) [] (ap (λ (y : ℤ). is_entry (n, y)) (sym e ∙ none)))
    ∙ append-nil (entries_by x n)
