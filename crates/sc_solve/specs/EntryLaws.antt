-- The entries of a list of numbers that aren't 0.
use Rattle.std.proofs.Common.{◌≡◌, ℕ, zero, suc, ◌+◌, ◌<◌, ◌≤◌, Bool, true, false, not, ◌∷◌, map, eqb, ℤ, pos, arith, inl, inr, refl, sym, subst, ◌∙◌}
use Rattle.std.specs.List.{filter, range_with_len}
use Rattle.std.specs.Ordering.{int_eq}
use Rattle.std.proofs.lemmas.Bool.{cases_Bool, cases_eq, eq-eqb, ne_eqb, cond-true, cond-false}
use Rattle.std.proofs.lemmas.Bool.Decides.{Decides-int_eq}
use Rattle.sc_basis.specs.Bases.{Column as Entries, entry_of, IsAscending}
use Rattle.sc_solve.specs.PolygonColumns.{is_entry, entries_by}

-- those from the index a on
abbrev pub entries_from : (ℕ → ℤ) → ℕ → ℕ → Entries
entries_from x a n = filter is_entry (map (λ k. (k, x k)) (range_with_len a n))

-- a number that has no entry is 0
zero_from : (k : ℕ) (z : ℤ) → is_entry (k, z) ≡ false → z ≡ pos 0
zero_from k z e = (Decides-int_eq z (pos 0)).0 (back (int_eq z (pos 0)) e)
  where
    back : (b : Bool) → not b ≡ false → b ≡ true
    back true h = refl
    back false h = cc

pub ascending_from : (x : ℕ → ℤ) (r a n least : ℕ) → least ≤ a → a + n ≤ r → IsAscending r least (entries_from x a n)
ascending_from x r a zero least low high = tt
ascending_from x r a (suc n) least low high =
    elim (cases_Bool (is_entry (a, x a))) [
      | inl e ↦ rw e (low, omega arith, ascending_from x r (a + 1) n (a + 1) (omega arith) (omega arith))
      | inr e ↦ rw e (ascending_from x r (a + 1) n least (omega arith) (omega arith))
    ]

entry_head : (a : ℕ) (z : ℤ) (es : Entries) → entry_of ((a, z) ∷ es) a ≡ z
entry_head a z es = cond-true (eqb a a) z (entry_of es a) (eq-eqb a a refl)

entry_tail : (a k : ℕ) (z : ℤ) (es : Entries) → a < k → entry_of ((a, z) ∷ es) k ≡ entry_of es k
entry_tail a k z es h = cond-false (eqb a k) z (entry_of es k) (ne_eqb a k (λ e. omega (arith, e)))

entry_tail_before : (a k : ℕ) (z : ℤ) (es : Entries) → k < a → entry_of ((a, z) ∷ es) k ≡ entry_of es k
entry_tail_before a k z es h = cond-false (eqb a k) z (entry_of es k) (ne_eqb a k (λ e. omega (arith, e)))

entry_before : (x : ℕ → ℤ) (a n k : ℕ) → k < a → entry_of (entries_from x a n) k ≡ pos 0
entry_before x a zero k h = refl
entry_before x a (suc n) k h =
    elim (cases_Bool (is_entry (a, x a))) [
      | inl e ↦ rw e (entry_tail_before a k (x a) (entries_from x (a + 1) n) h ∙ entry_before x (a + 1) n k (omega arith))
      | inr e ↦ rw e (entry_before x (a + 1) n k (omega arith))
    ]

entry_first : (x : ℕ → ℤ) (a n : ℕ) → entry_of (entries_from x a (suc n)) a ≡ x a
entry_first x a n =
    elim (cases_Bool (is_entry (a, x a))) [
      | inl e ↦ rw e (entry_head a (x a) (entries_from x (a + 1) n))
      | inr e ↦ rw e (entry_before x (a + 1) n a (omega arith) ∙ sym (zero_from a (x a) e))
    ]

entry_later : (x : ℕ → ℤ) (a n k : ℕ) → a < k → entry_of (entries_from x a (suc n)) k ≡ entry_of (entries_from x (a + 1) n) k
entry_later x a n k h =
    elim (cases_Bool (is_entry (a, x a))) [
      | inl e ↦ rw e (entry_tail a k (x a) (entries_from x (a + 1) n) h)
      | inr e ↦ rw e refl
    ]

pub entry_from : (x : ℕ → ℤ) (a n k : ℕ) → a ≤ k → k < a + n → entry_of (entries_from x a n) k ≡ x k
entry_from x a zero k low high = absurd (omega arith)
entry_from x a (suc n) k low high =
    elim (cases_eq a k) [
      | inl e ↦ subst (λ (m : ℕ). entry_of (entries_from x a (suc n)) m ≡ x m) e (entry_first x a n)
      | inr ne ↦ entry_later x a n k (omega arith) ∙ entry_from x (a + 1) n k (omega arith) (omega arith)
    ]

pub entries_ascend : (x : ℕ → ℤ) (r : ℕ) → IsAscending r 0 (entries_by x r)
entries_ascend x r = ascending_from x r 0 r 0 (omega arith) (omega arith)

pub entry_is : (x : ℕ → ℤ) (r k : ℕ) → k < r → entry_of (entries_by x r) k ≡ x k
entry_is x r k h = entry_from x 0 r k (omega arith) (omega arith)
