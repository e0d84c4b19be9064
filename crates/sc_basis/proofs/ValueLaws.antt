-- The values of a basis that a lawful journal reaches. Each law is the spread of the inverse, taken at one list
-- or another.
use Rattle.std.specs.Prelude.{◌≡◌, ℕ, zero, suc, ◌+◌, ◌<◌, List, [], ◌∷◌, Option, Some, None, ℤ, pos, negsuc, ◌+ℤ◌, ◌*ℤ◌, ◌≤ℤ◌, ◌<ℤ◌}
use Rattle.std.specs.List.{AllByRecursion}
use Rattle.std.proofs.Common.{arith, sym, ap, subst, ◌∙◌, inl, inr}
use Rattle.std.proofs.lemmas.Int.{ints}
use Rattle.sc_algebra.specs.Sums.{sum_below}
use Rattle.std.proofs.lemmas.Bool.{cases_lt, cases_eq}
use borrow.Author.Differences.{up, down}
use Rattle.sc_algebra.proofs.Ints.{mul-zero, mul_comm, mul_left_comm, mul_assoc, mul_add, le_antisymm, le_of_eq, le_trans}
use Rattle.sc_algebra.proofs.Sums.{sum-congr, sum-add, sum-mul_left, sum_zero_each, sum-le, sum-zero}
use Rattle.sc_basis.specs.Products.{dot, unit}
use Rattle.sc_basis.specs.Bases.{Column, Basis, entry_of, item, columns, bulk_cost, bulk_costs, fine_costs}
use Rattle.sc_basis.specs.Standing.{BasisNumbers, Gives, Stands}
use Rattle.sc_basis.specs.Pivots.{Improves}
use Rattle.sc_basis.specs.Lines.{line, IsAbove}
use Rattle.sc_basis.specs.Journals.{Inverse, IsReached}
use Rattle.sc_basis.specs.Values.{value, AreMultiples, sum_of, SumTo}
use Rattle.sc_basis.proofs.Numbers.{cancel_pos, mul_le, le_of_mul}
use Rattle.sc_basis.proofs.ProductLaws.{dot-unit}

-- ---- what a column that doesn't improve costs
at_least : (a b : ℤ) → (b <ℤ a → ⊥) → a ≤ℤ b
at_least a b other = elim (cases_lt (up b + down a) (up a + down b)) [
  | inl below ↦ absurd (other (omega (arith, ints)))
  | inr above ↦ omega (arith, ints)
]

-- a column that doesn't improve has a bulk price of at least 0, and where it is 0 a fine price of at least the scale
pub bulk_at_least : (r : ℕ) (t : BasisNumbers) (c : Column) → ¬ Improves r t c → pos 0 ≤ℤ dot r t.bulk (entry_of c)
bulk_at_least r t c refused = at_least (pos 0) (dot r t.bulk (entry_of c)) (λ below. refused (inl below))

pub fine_at_least : (r : ℕ) (t : BasisNumbers) (c : Column) → ¬ Improves r t c → dot r t.bulk (entry_of c) ≡ pos 0 → t.fine_scale ≤ℤ dot r t.fine (entry_of c)
fine_at_least r t c refused nothing = at_least t.fine_scale (dot r t.fine (entry_of c)) (λ below. refused (inr (nothing, below)))

-- a sum of numbers of which none is above 0 is 0 only where each is
each_zero : (f : ℕ → ℤ) (r : ℕ) → ((i : ℕ) → i < r → f i ≤ℤ pos 0) → sum_below f r ≡ pos 0 → (i : ℕ) → i < r → f i ≡ pos 0
each_zero f zero low all i inside = absurd (omega arith)
each_zero f (suc r) low all i inside =
    let rest : sum_below f r ≤ℤ pos 0 = le_trans (sum_below f r) (sum_below (λ k. pos 0) r) (pos 0) (sum-le f (λ k. pos 0) r (λ k below. low k (omega arith))) (le_of_eq _ _ (sum-zero r)) in
    let last : f r ≤ℤ pos 0 = low r (omega arith) in
    elim (cases_eq i r) [
      | inl same ↦ ap f same ∙ at_end (sum_below f r) (f r) rest last all
      | inr other ↦ each_zero f r (λ k below. low k (omega arith)) (at_start (sum_below f r) (f r) rest last all) i (omega arith)
    ]
  where
    at_end : (a b : ℤ) → a ≤ℤ pos 0 → b ≤ℤ pos 0 → a +ℤ b ≡ pos 0 → b ≡ pos 0
    at_end a b h k e = omega (arith, ints)

    at_start : (a b : ℤ) → a ≤ℤ pos 0 → b ≤ℤ pos 0 → a +ℤ b ≡ pos 0 → a ≡ pos 0
    at_start a b h k e = omega (arith, ints)

from_unit : (p : ℤ) → p *ℤ negsuc 0 ≡ pos 0 → p ≡ pos 0
from_unit p e = omega (arith, ints)

-- the bulk price of a sum of columns
dot-sum_of : (r : ℕ) (x : ℕ → ℤ) (c : Column) (cs : List Column) → dot r x (sum_of (c ∷ cs)) ≡ dot r x (entry_of c) +ℤ dot r x (sum_of cs)
dot-sum_of r x c cs =
    sum-congr (λ k. x k *ℤ (entry_of c k +ℤ sum_of cs k)) (λ k. x k *ℤ entry_of c k +ℤ x k *ℤ sum_of cs k) r (λ k _. mul_add (x k) (entry_of c k) (sum_of cs k))
    ∙ sum-add (λ k. x k *ℤ entry_of c k) (λ k. x k *ℤ sum_of cs k) r

sum_at_least : (r : ℕ) (t : BasisNumbers) (cs : List Column) → AllByRecursion (λ c. ¬ Improves r t c) cs → pos 0 ≤ℤ dot r t.bulk (sum_of cs)
sum_at_least r t [] refused = le_of_eq (pos 0) (dot r t.bulk (sum_of [])) (sym (sum_zero_each (λ k. t.bulk k *ℤ pos 0) r (λ k _. mul-zero (t.bulk k))))
sum_at_least r t (c ∷ cs) refused = omega (arith, ints, dot-sum_of r t.bulk c cs, bulk_at_least r t c refused.0, sum_at_least r t cs refused.1)

-- ---- a product with a list that gives numbers, by the products of the rows of the inverse
module _ (r : ℕ) (column : ℕ → ℕ → ℤ) (inverse : Inverse r column) where
  -- what a list that gives x makes of v, by what the rows of the inverse make of it; the second where x is a unit
  pub by_rows : (x v : ℕ → ℤ) (w : ℕ → ℤ) (d : ℤ) → Gives r column x w d → inverse.scale *ℤ dot r w v ≡ d *ℤ sum_below (λ i. dot r (inverse.row i) v *ℤ x i) r
  by_rows x v w d gives =
      inverse.spread w v
      ∙ sum-congr (λ i. dot r (inverse.row i) v *ℤ dot r w (column i)) (λ i. d *ℤ (dot r (inverse.row i) v *ℤ x i)) r
      (λ i inside. ap (λ (p : ℤ). dot r (inverse.row i) v *ℤ p) (gives.product i inside) ∙ mul_left_comm (dot r (inverse.row i) v) d (x i))
      ∙ sum-mul_left d (λ i. dot r (inverse.row i) v *ℤ x i) r

  -- a row of the basis is in proportion to that of the inverse
  pub by_row : (i : ℕ) (v w : ℕ → ℤ) (d : ℤ) → i < r → Gives r column (unit i) w d → inverse.scale *ℤ dot r w v ≡ d *ℤ dot r (inverse.row i) v
  by_row i v w d inside gives =
      by_rows (unit i) v w d gives ∙ ap (λ (p : ℤ). d *ℤ p) (dot-unit r i (λ k. dot r (inverse.row k) v) inside)

module _ (r : ℕ) (b : ℕ → ℤ) (basis : Basis) (t : BasisNumbers) (reached : IsReached r b basis) (stands : Stands r basis t) where
  first_not_negative : (f : ℕ → ℤ) → IsAbove r f → pos 0 ≤ℤ f 0
  first_not_negative f (zero, inside, same, above) = omega (arith, ints)
  first_not_negative f (suc k, inside, same, above) = le_of_eq (pos 0) (f 0) (same 0 (omega arith))

  part_not_negative : (i : ℕ) → i < r → pos 0 ≤ℤ dot r (reached.inverse.row i) b
  part_not_negative i inside = first_not_negative (line r b (reached.inverse.row i)) (reached.above i inside)

  value_by_row : (i : ℕ) → i < r → reached.inverse.scale *ℤ value r b t i ≡ t.denominator i *ℤ dot r (reached.inverse.row i) b
  value_by_row i inside = by_row r (columns basis) reached.inverse i b (t.row i) (t.denominator i) inside (stands.rows i inside)

  not_negative : (i : ℕ) → i < r → pos 0 ≤ℤ value r b t i
  not_negative i inside =
      le_of_mul reached.inverse.scale (pos 0) (value r b t i) reached.inverse.positive
      (let part = mul_le (t.denominator i) (pos 0) (dot r (reached.inverse.row i) b) (stands.rows i inside).positive (part_not_negative i inside) in
      omega (arith, ints, value_by_row i inside, mul-zero (t.denominator i), mul-zero reached.inverse.scale))

  -- the bulk price of the right side is the parts of the units, taken away
  bulk_parts : reached.inverse.scale *ℤ dot r t.bulk b ≡ t.bulk_scale *ℤ sum_below (λ i. dot r (reached.inverse.row i) b *ℤ bulk_costs basis i) r
  bulk_parts = by_rows r (columns basis) reached.inverse (bulk_costs basis) b t.bulk t.bulk_scale stands.bulk

  cost_at_most : (i : ℕ) → i < r → (dot r (reached.inverse.row i) b *ℤ bulk_costs basis i) ≤ℤ pos 0
  cost_at_most i inside = of_item (item basis i) (dot r (reached.inverse.row i) b) (part_not_negative i inside)
    where
      of_item : (o : Option Column) (p : ℤ) → pos 0 ≤ℤ p → (p *ℤ bulk_cost o) ≤ℤ pos 0
      of_item None p h = omega (arith, ints)
      of_item (Some c) p h = omega (arith, ints)

  cost_below : sum_below (λ i. dot r (reached.inverse.row i) b *ℤ bulk_costs basis i) r ≤ℤ pos 0
  cost_below = le_trans _ (sum_below (λ i. pos 0) r) (pos 0) (sum-le (λ i. dot r (reached.inverse.row i) b *ℤ bulk_costs basis i) (λ i. pos 0) r cost_at_most) (le_of_eq _ _ (sum-zero r))

  bulk_at_most : dot r t.bulk b ≤ℤ pos 0
  bulk_at_most =
      le_of_mul reached.inverse.scale (dot r t.bulk b) (pos 0) reached.inverse.positive
      (let below = mul_le t.bulk_scale (sum_below (λ i. dot r (reached.inverse.row i) b *ℤ bulk_costs basis i) r) (pos 0) stands.bulk.positive cost_below in
      omega (arith, ints, bulk_parts, mul-zero t.bulk_scale, mul-zero reached.inverse.scale))

  -- where that is 0, each unit's part is 0, and so is its value
  no_costs : dot r t.bulk b ≡ pos 0 → sum_below (λ i. dot r (reached.inverse.row i) b *ℤ bulk_costs basis i) r ≡ pos 0
  no_costs nothing =
      cancel_pos t.bulk_scale (sum_below (λ i. dot r (reached.inverse.row i) b *ℤ bulk_costs basis i) r) (pos 0) stands.bulk.positive
      (sym bulk_parts ∙ ap (λ (x : ℤ). reached.inverse.scale *ℤ x) nothing ∙ mul-zero reached.inverse.scale ∙ sym (mul-zero t.bulk_scale))

  of_unit : dot r t.bulk b ≡ pos 0 → (i : ℕ) → i < r → item basis i ≡ None → value r b t i ≡ pos 0
  of_unit nothing i inside is =
      let part : ℤ = dot r (reached.inverse.row i) b in
      let cost : part *ℤ bulk_costs basis i ≡ pos 0 = each_zero (λ k. dot r (reached.inverse.row k) b *ℤ bulk_costs basis k) r cost_at_most (no_costs nothing) i inside in
      let none_left : part ≡ pos 0 = from_unit part (sym (ap (λ (o : Option Column). part *ℤ bulk_cost o) is) ∙ cost) in
      cancel_pos reached.inverse.scale (value r b t i) (pos 0) reached.inverse.positive
      (value_by_row i inside ∙ ap (λ (x : ℤ). t.denominator i *ℤ x) none_left ∙ mul-zero (t.denominator i) ∙ sym (mul-zero reached.inverse.scale))

  -- n times a value, over the scale of the inverse
  multiple_by_row : (n : ℤ) (y : ℕ → ℤ) → AreMultiples r b t n y → (i : ℕ) → i < r → reached.inverse.scale *ℤ y i ≡ n *ℤ dot r (reached.inverse.row i) b
  multiple_by_row n y are i inside =
      cancel_pos (t.denominator i) (reached.inverse.scale *ℤ y i) (n *ℤ dot r (reached.inverse.row i) b) (stands.rows i inside).positive
      (mul_left_comm (t.denominator i) reached.inverse.scale (y i)
      ∙ ap (λ (x : ℤ). reached.inverse.scale *ℤ x) (are i inside)
      ∙ mul_left_comm reached.inverse.scale n (value r b t i)
      ∙ ap (λ (x : ℤ). n *ℤ x) (value_by_row i inside)
      ∙ mul_left_comm n (t.denominator i) (dot r (reached.inverse.row i) b))

  -- so n times a sum of the rows' products, each with a number, is the scale times the sum of the multiples with them
  multiples_by_rows : (n : ℤ) (y : ℕ → ℤ) → AreMultiples r b t n y → (x : ℕ → ℤ) → n *ℤ sum_below (λ i. dot r (reached.inverse.row i) b *ℤ x i) r ≡ reached.inverse.scale *ℤ sum_below (λ i. y i *ℤ x i) r
  multiples_by_rows n y are x =
      sym (sum-mul_left n (λ i. dot r (reached.inverse.row i) b *ℤ x i) r)
      ∙ sum-congr (λ i. n *ℤ (dot r (reached.inverse.row i) b *ℤ x i)) (λ i. reached.inverse.scale *ℤ (y i *ℤ x i)) r
      (λ i inside. sym (mul_assoc n (dot r (reached.inverse.row i) b) (x i)) ∙ ap (λ (z : ℤ). z *ℤ x i) (sym (multiple_by_row n y are i inside)) ∙ mul_assoc reached.inverse.scale (y i) (x i))
      ∙ sum-mul_left reached.inverse.scale (λ i. y i *ℤ x i) r

-- no item of a basis that is reached has a negative value
pub value_not_negative : (r : ℕ) (b : ℕ → ℤ) (basis : Basis) (t : BasisNumbers) → IsReached r b basis → Stands r basis t → (i : ℕ) → i < r → pos 0 ≤ℤ value r b t i
value_not_negative r b basis t reached stands = not_negative r b basis t reached stands

-- where the right side is a sum of columns that don't improve, its bulk price is 0
pub bulk_of_right_side : (r : ℕ) (b : ℕ → ℤ) (basis : Basis) (t : BasisNumbers) (cs : List Column) → IsReached r b basis → Stands r basis t → SumTo r cs b → AllByRecursion (λ c. ¬ Improves r t c) cs → dot r t.bulk b ≡ pos 0
bulk_of_right_side r b basis t cs reached stands sums refused =
    let same : dot r t.bulk (sum_of cs) ≡ dot r t.bulk b = sum-congr (λ k. t.bulk k *ℤ sum_of cs k) (λ k. t.bulk k *ℤ b k) r (λ k inside. ap (λ (x : ℤ). t.bulk k *ℤ x) (sums k inside)) in
    le_antisymm (dot r t.bulk b) (pos 0) (bulk_at_most r b basis t reached stands) (subst (λ (x : ℤ). pos 0 ≤ℤ x) same (sum_at_least r t cs refused))

-- and then every unit column that is left in the basis has the value 0
pub unit_value : (r : ℕ) (b : ℕ → ℤ) (basis : Basis) (t : BasisNumbers) (cs : List Column) → IsReached r b basis → Stands r basis t → SumTo r cs b → AllByRecursion (λ c. ¬ Improves r t c) cs → (i : ℕ) → i < r → item basis i ≡ None → value r b t i ≡ pos 0
unit_value r b basis t cs reached stands sums refused = of_unit r b basis t reached stands (bulk_of_right_side r b basis t cs reached stands sums refused)

-- the items, each taken n times its value, sum to n times the right side
pub columns_sum : (r : ℕ) (b : ℕ → ℤ) (basis : Basis) (t : BasisNumbers) (n : ℤ) (y : ℕ → ℤ) → IsReached r b basis → Stands r basis t → AreMultiples r b t n y → (k : ℕ) → k < r → n *ℤ b k ≡ sum_below (λ i. y i *ℤ columns basis i k) r
columns_sum r b basis t n y reached stands are k inside =
    let q : ℤ = reached.inverse.scale in
    let entry : q *ℤ b k ≡ sum_below (λ i. dot r (reached.inverse.row i) b *ℤ columns basis i k) r =
    ap (λ (x : ℤ). q *ℤ x) (sym (unit_first r k b inside))
    ∙ reached.inverse.spread (unit k) b
    ∙ sum-congr (λ i. dot r (reached.inverse.row i) b *ℤ dot r (unit k) (columns basis i)) (λ i. dot r (reached.inverse.row i) b *ℤ columns basis i k) r
    (λ i _. ap (λ (x : ℤ). dot r (reached.inverse.row i) b *ℤ x) (unit_first r k (columns basis i) inside)) in
    cancel_pos q (n *ℤ b k) (sum_below (λ i. y i *ℤ columns basis i k) r) reached.inverse.positive
    (mul_left_comm q n (b k) ∙ ap (λ (x : ℤ). n *ℤ x) entry ∙ multiples_by_rows r b basis t reached stands n y are (λ i. columns basis i k))
  where
    unit_first : (r k : ℕ) (v : ℕ → ℤ) → k < r → dot r (unit k) v ≡ v k
    unit_first r k v inside = sum-congr (λ i. unit k i *ℤ v i) (λ i. v i *ℤ unit k i) r (λ i _. mul_comm (unit k i) (v i)) ∙ dot-unit r k v inside

-- n times the fine price of the right side is the fine scale times n times the columns' values, summed
pub fine_price : (r : ℕ) (b : ℕ → ℤ) (basis : Basis) (t : BasisNumbers) (n : ℤ) (y : ℕ → ℤ) → IsReached r b basis → Stands r basis t → AreMultiples r b t n y → n *ℤ dot r t.fine b ≡ t.fine_scale *ℤ sum_below (λ i. fine_costs basis i *ℤ y i) r
fine_price r b basis t n y reached stands are =
    let q : ℤ = reached.inverse.scale in
    let d : ℤ = t.fine_scale in
    let parts : ℤ = sum_below (λ i. dot r (reached.inverse.row i) b *ℤ fine_costs basis i) r in
    cancel_pos q (n *ℤ dot r t.fine b) (d *ℤ sum_below (λ i. fine_costs basis i *ℤ y i) r) reached.inverse.positive
    (mul_left_comm q n (dot r t.fine b)
    ∙ ap (λ (x : ℤ). n *ℤ x) (by_rows r (columns basis) reached.inverse (fine_costs basis) b t.fine d stands.fine)
    ∙ mul_left_comm n d parts
    ∙ ap (λ (x : ℤ). d *ℤ x) (multiples_by_rows r b basis t reached stands n y are (fine_costs basis))
    ∙ mul_left_comm d q (sum_below (λ i. y i *ℤ fine_costs basis i) r)
    ∙ ap (λ (x : ℤ). q *ℤ (d *ℤ x)) (sum-congr (λ i. y i *ℤ fine_costs basis i) (λ i. fine_costs basis i *ℤ y i) r (λ i _. mul_comm (y i) (fine_costs basis i))))
