-- A column that improves has a positive product with some row, where each column has a positive product with a
-- list of lengths.
use Rattle.std.specs.Prelude.{◌≡◌, ◌⊎◌, ℕ, zero, suc, ◌<◌, Option, Some, None, ℤ, pos, ◌*ℤ◌, ◌≤ℤ◌, ◌<ℤ◌}
use Rattle.std.proofs.Common.{arith, refl, sym, ap, subst, ◌∙◌, inl, inr}
use Rattle.std.proofs.lemmas.Int.{ints}
use Rattle.std.proofs.lemmas.Bool.{cases_lt}
use Rattle.sc_algebra.specs.Sums.{sum_below}
use Rattle.sc_algebra.proofs.Sums.{sum_non_negative}
use Rattle.sc_algebra.proofs.Ints.{mul-zero, zero-mul, mul_comm}
use Rattle.sc_basis.specs.Products.{dot, unit}
use Rattle.sc_basis.specs.Bases.{Column, entry_of, Basis, item, columns, entries_at, bulk_cost, bulk_costs}
use Rattle.sc_basis.specs.Standing.{BasisNumbers, Stands}
use Rattle.sc_basis.specs.Pivots.{along, Improves}
use Rattle.sc_basis.specs.Journals.{IsReached}
use Rattle.sc_basis.proofs.Numbers.{mul_pos, le_of_mul, mul_le}
use Rattle.sc_basis.proofs.LexOrder.{cases_positive}
use Rattle.sc_basis.proofs.InverseLaws.{determined, row_determined}

-- some of the numbers below n is positive, or none is
pub some_positive : (f : ℕ → ℤ) (n : ℕ) → ((i : ℕ) × (i < n) × (pos 0 <ℤ f i)) ⊎ ((i : ℕ) → i < n → f i ≤ℤ pos 0)
some_positive f zero = inr (λ i l. absurd (omega arith))
some_positive f (suc n) =
    elim (some_positive f n) [
      | inl (i, inside, positive) ↦ inl (i, omega arith, positive)
      | inr none ↦ elim (cases_positive (f n)) [
        | inl positive ↦ inl (n, omega arith, positive)
        | inr last ↦ inr (λ i l. elim (cases_lt i n) [
          | inl below ↦ none i below
          | inr past ↦ (let at : n ≡ i = omega arith in subst (λ j. f j ≤ℤ pos 0) at last)
        ])
      ]
    ]

sum_non_positive : (f : ℕ → ℤ) (n : ℕ) → ((i : ℕ) → i < n → f i ≤ℤ pos 0) → sum_below f n ≤ℤ pos 0
sum_non_positive f zero h = omega (arith, ints)
sum_non_positive f (suc n) h =
    let rest : sum_below f n ≤ℤ pos 0 = sum_non_positive f n (λ i l. h i (omega arith)) in
    let last : f n ≤ℤ pos 0 = h n (omega arith) in
    omega (arith, ints)

-- terms of which none is negative sum to 0 only where each is 0
zero_terms : (f : ℕ → ℤ) (n : ℕ) → ((i : ℕ) → i < n → pos 0 ≤ℤ f i) → sum_below f n ≤ℤ pos 0 → (i : ℕ) → i < n → f i ≡ pos 0
zero_terms f zero h total i l = absurd (omega arith)
zero_terms f (suc n) h total i l =
    let rest : pos 0 ≤ℤ sum_below f n = sum_non_negative f n (λ j m. h j (omega arith)) in
    let last : pos 0 ≤ℤ f n = h n (omega arith) in
    elim (cases_lt i n) [
      | inl below ↦ zero_terms f n (λ j m. h j (omega arith)) (omega (arith, ints)) i below
      | inr past ↦ (let at : n ≡ i = omega arith in subst (λ j. f j ≡ pos 0) at (let e : f n ≡ pos 0 = omega (arith, ints) in e))
    ]

module _ (r : ℕ) (b : ℕ → ℤ) (basis : Basis) (t : BasisNumbers) (c : Column) (long : ℕ → ℤ) (reached : IsReached r b basis) (stands : Stands r basis t) where
  share : ℕ → ℤ
  share i = dot r (reached.inverse.row i) (entry_of c)

  share_sign : (i : ℕ) → i < r → along r t c i ≤ℤ pos 0 → share i ≤ℤ pos 0
  unfolding share
  share_sign i inside h =
      le_of_mul (t.denominator i) (share i) (pos 0) (stands.rows i inside).positive
      (subst (λ (z : ℤ). z ≤ℤ (t.denominator i *ℤ pos 0))
      (row_determined r (columns basis) reached.inverse i (t.row i) (t.denominator i) inside (stands.rows i inside) (entry_of c))
      (subst (λ (z : ℤ). (reached.inverse.scale *ℤ along r t c i) ≤ℤ z) (mul-zero reached.inverse.scale ∙ sym (mul-zero (t.denominator i)))
      (mul_le reached.inverse.scale (along r t c i) (pos 0) reached.inverse.positive h)))

  cost_term : (o : Option Column) (s : ℤ) → s ≤ℤ pos 0 → pos 0 ≤ℤ (s *ℤ bulk_cost o)
  cost_term None s h = omega (arith, ints)
  cost_term (Some own) s h = omega (arith, ints)

  no_share : (o : Option Column) (s : ℤ) → o ≡ None → s *ℤ bulk_cost o ≡ pos 0 → s ≡ pos 0
  no_share None s e h = omega (arith, ints)
  no_share (Some own) s e h = cc

  length_term : (i : ℕ) (o : Option Column) (s : ℤ) → ((own : Column) → o ≡ Some own → pos 0 <ℤ dot r long (entry_of own)) → s ≤ℤ pos 0 → s *ℤ bulk_cost o ≡ pos 0
      → (s *ℤ dot r long (entries_at i o)) ≤ℤ pos 0
  length_term i None s longer h e =
      let zero : s ≡ pos 0 = no_share None s refl e in
      subst (λ (z : ℤ). z ≤ℤ pos 0) (sym (ap (λ (z : ℤ). z *ℤ dot r long (unit i)) zero ∙ zero-mul (dot r long (unit i)))) (omega (arith, ints))
  length_term i (Some own) s longer h e =
      let positive : pos 0 <ℤ dot r long (entry_of own) = longer own refl in
      subst (λ (z : ℤ). z ≤ℤ pos 0) (mul_comm (dot r long (entry_of own)) s)
      (subst (λ (z : ℤ). (dot r long (entry_of own) *ℤ s) ≤ℤ z) (mul-zero (dot r long (entry_of own))) (mul_le (dot r long (entry_of own)) s (pos 0) positive h))

  -- a column that improves has a positive product with some row of the basis, where its own product with `long`
  -- and that of each column of the basis are positive
  pub bounded_column : ((i : ℕ) (own : Column) → i < r → item basis i ≡ Some own → pos 0 <ℤ dot r long (entry_of own)) → pos 0 <ℤ dot r long (entry_of c) → Improves r t c
      → (i : ℕ) × (i < r) × (pos 0 <ℤ along r t c i)
  unfolding share
  bounded_column longer entering improves =
      elim (some_positive (along r t c) r) [
        | inl found ↦ found
        | inr none ↦ absurd (impossible none)
      ]
    where
      cheap : dot r t.bulk (entry_of c) ≤ℤ pos 0
      cheap = elim improves [ inl less ↦ omega (arith, ints) | inr same ↦ (let e = same.0 in omega (arith, ints)) ]

      scaled_sign : (z x : ℤ) → pos 0 <ℤ z → x ≤ℤ pos 0 → (z *ℤ x) ≤ℤ pos 0
      scaled_sign z x p h = subst (λ (y : ℤ). (z *ℤ x) ≤ℤ y) (mul-zero z) (mul_le z x (pos 0) p h)

      sign_of : (z x : ℤ) → pos 0 <ℤ z → (z *ℤ x) ≤ℤ pos 0 → x ≤ℤ pos 0
      sign_of z x p h = le_of_mul z x (pos 0) p (subst (λ (y : ℤ). (z *ℤ x) ≤ℤ y) (sym (mul-zero z)) h)

      impossible : ((i : ℕ) → i < r → along r t c i ≤ℤ pos 0) → ⊥
      impossible none =
          let inv = reached.inverse in
          let total : sum_below (λ i. share i *ℤ bulk_costs basis i) r ≤ℤ pos 0 =
          sign_of t.bulk_scale _ stands.bulk.positive
          (subst (λ (z : ℤ). z ≤ℤ pos 0) (determined r (columns basis) inv (bulk_costs basis) t.bulk t.bulk_scale stands.bulk (entry_of c))
          (scaled_sign inv.scale _ inv.positive cheap)) in
          let terms : (i : ℕ) → i < r → share i *ℤ bulk_costs basis i ≡ pos 0 =
          zero_terms (λ i. share i *ℤ bulk_costs basis i) r (λ i l. cost_term (item basis i) (share i) (share_sign i l (none i l))) total in
          let lengths : sum_below (λ i. share i *ℤ dot r long (columns basis i)) r ≤ℤ pos 0 =
          sum_non_positive (λ i. share i *ℤ dot r long (columns basis i)) r
          (λ i l. length_term i (item basis i) (share i) (λ own e. longer i own l e) (share_sign i l (none i l)) (terms i l)) in
          let whole : (inv.scale *ℤ dot r long (entry_of c)) ≤ℤ pos 0 = subst (λ (z : ℤ). z ≤ℤ pos 0) (sym (inv.spread long (entry_of c))) lengths in
          let product : pos 0 <ℤ (inv.scale *ℤ dot r long (entry_of c)) = mul_pos inv.scale (dot r long (entry_of c)) inv.positive entering in
          omega (arith, ints)
