-- The lift is tight for what is glued of the basis.
use Rattle.std.proofs.Common.{◌≡◌, ℕ, ℤ, pos, ◌+ℤ◌, ◌*ℤ◌, arith, sym, ap, subst, ◌∙◌}
use Rattle.std.proofs.lemmas.Int.{ints}
use Rattle.sc_algebra.proofs.Ints.{mul-zero}
use Rattle.sc_theory.specs.Chains.{Chain}
use Rattle.sc_theory.specs.Prices.{Prices, bound}
use Rattle.sc_theory.specs.Columns.{rows, right_side}
use Rattle.sc_weight.specs.declared.level.Level.TheVariants.{Bulk, Fine}
use Rattle.sc_basis.specs.Products.{dot}
use Rattle.sc_rows.specs.Standing.{entries_of}
use Rattle.sc_rows.specs.declared.prices.PriceRows.{PriceRows}
use Rattle.sc_solve.specs.PriceLevels.{list_at, lifted_list}
use Rattle.sc_solve.specs.Lifts.{IsLift}
use Rattle.sc_solve.proofs.ColumnTotals.{right_side_total}
use Rattle.sc_solve.proofs.PolygonPrices.{lifted_bound}

left_alone : (a x m : ℤ) → x ≡ pos 0 → a +ℤ m *ℤ x ≡ a
left_alone a x m e = ap (λ (y : ℤ). a +ℤ m *ℤ y) e ∙ ap (λ (y : ℤ). a +ℤ y) (mul-zero m) ∙ nothing a
  where
    nothing : (z : ℤ) → z +ℤ pos 0 ≡ z
    nothing z = omega (arith, ints)

-- where the right side has no bulk price, the bound of the lift is its fine price
bound_of_lift : (c : Chain) (p : PriceRows) (factor : ℤ) → dot (rows c) (entries_of p.bulk) (right_side c) ≡ pos 0 → bound c (lifted_list c p factor) ≡ dot (rows c) (entries_of p.fine) (right_side c)
bound_of_lift c p factor none =
    lifted_bound c p factor
    ∙ left_alone (bound c (list_at c p Fine)) (bound c (list_at c p Bulk)) factor (sym (right_side_total c (entries_of p.bulk) p.bulk.scale) ∙ none)
    ∙ sym (right_side_total c (entries_of p.fine) p.fine.scale)

-- where the right side has no bulk price, and n times its fine price is the scale for each vertex, the lift is tight:
-- its scale times the vertices is n times its bound
pub lift_is_tight : (c : Chain) (p : PriceRows) (list : Prices) (n vertices : ℕ) → IsLift c p list → dot (rows c) (entries_of p.bulk) (right_side c) ≡ pos 0
    → pos n *ℤ dot (rows c) (entries_of p.fine) (right_side c) ≡ p.fine.scale *ℤ pos vertices → list.scale *ℤ pos vertices ≡ pos n *ℤ bound c list
lift_is_tight c p list n vertices lift none price =
    subst (λ (l : Prices). l.scale *ℤ pos vertices ≡ pos n *ℤ bound c l) (sym lift.list_is)
    (sym price ∙ ap (λ (x : ℤ). pos n *ℤ x) (sym (bound_of_lift c p lift.factor none)))
