-- The prices of polygons at two levels, by their columns.
use Rattle.std.proofs.Common.{◌≡◌, ℕ, ◌<◌, ◌⊎◌, inl, inr, List, [], ℤ, pos, ◌+ℤ◌, ◌*ℤ◌, ◌≤ℤ◌, ◌<ℤ◌, arith, refl, sym, ap, ap₂, subst, ◌∙◌}
use Rattle.std.proofs.lemmas.Int.{ints}
use Rattle.std.proofs.lemmas.Bool.{true≢false}
use Rattle.sc_algebra.proofs.Sums.{sum_zero_each}
use Rattle.sc_algebra.proofs.Ints.{zero-mul}
use Rattle.sc_theory.specs.Chains.{Chain, IsChain}
use Rattle.sc_theory.specs.Walks.{IsClosedWalk, IsPolygon, walk_total}
use Rattle.sc_theory.specs.Prices.{price, bound}
use Rattle.sc_theory.specs.Columns.{rows, column, right_side}
use Rattle.sc_weight.specs.Levels.{Levels, zero_levels}
use Rattle.sc_weight.specs.declared.level.Level.TheVariants.{Bulk, Fine}
use Rattle.sc_basis.specs.Products.{dot}
use Rattle.sc_basis.specs.Bases.{entry_of}
use Rattle.sc_basis.proofs.ProductLaws.{dot-congr, dot-add, dot-mul}
use Rattle.sc_basis.proofs.ValueLaws.{bulk_at_least, fine_at_least}
use Rattle.sc_rows.specs.Standing.{entries_of, numbers_of}
use Rattle.sc_rows.specs.declared.prices.PriceRows.{PriceRows}
use Rattle.sc_simplex.specs.Oracles.{ImprovesAt, NoneImproves}
use Rattle.sc_tables.specs.Totals.{closed_total, IsBelow, IsAtMost}
use Rattle.sc_tables.specs.Tables.{AllAtLeast, IsPolygonBelow}
use Rattle.sc_tables.proofs.Polygons.{polygons_decide}
use Rattle.sc_solve.specs.PriceLevels.{list_by, list_at, price_levels, threshold_of, lifted_price, lifted_list}
use Rattle.sc_solve.specs.PolygonColumns.{column_entries, IsPolygonColumn}
use Rattle.sc_solve.specs.EntryLaws.{entry_is}
use Rattle.sc_solve.proofs.ColumnTotals.{column_total, right_side_total}

-- ---- the order of pairs, where the threshold has no bulk
-- to be below it is to have a negative bulk, or none and a lesser fine number
pub below_cases : (x t : Levels) → t.bulk ≡ pos 0 → IsBelow x t → (x.bulk <ℤ pos 0) ⊎ ((x.bulk ≡ pos 0) × (x.fine <ℤ t.fine))
below_cases x t e h = grind (arith, ints)

pub below_from : (x t : Levels) → t.bulk ≡ pos 0 → (x.bulk <ℤ pos 0) ⊎ ((x.bulk ≡ pos 0) × (x.fine <ℤ t.fine)) → IsBelow x t
below_from x t e h = grind (arith, ints)

-- no pair is both below the threshold and at least that
pub not_both : (x t : Levels) → IsBelow x t → IsAtMost t x → ⊥
not_both x t h k = true≢false (sym h ∙ k)

-- where neither has a bulk, the order of pairs is that of the fine numbers
pub fine_at_most : (x t : Levels) → t.bulk ≡ pos 0 → x.bulk ≡ pos 0 → IsAtMost t x → t.fine ≤ℤ x.fine
fine_at_most x t e h k = grind (arith, ints)

not_less : (x : ℤ) → pos 0 ≤ℤ x → x <ℤ pos 0 → ⊥
not_less x h k = omega (arith, ints)

not_less_than : (x y : ℤ) → y ≤ℤ x → x <ℤ y → ⊥
not_less_than x y h k = omega (arith, ints)

module _ (c : Chain) (chain : IsChain c) where
  -- prices of the rows times the entries of a closed walk's column are the walk's total
  pub entries_total : (v : ℕ → ℤ) (scale : ℤ) (walk : List ℕ) → IsClosedWalk c walk → dot (rows c) v (entry_of (column_entries c walk)) ≡ walk_total (price c (list_by c v scale)) walk
  entries_total v scale walk closed =
      dot-congr (rows c) v v (entry_of (column_entries c walk)) (column c walk) (λ k _. refl) (λ k inside. entry_is (column c walk) (rows c) k inside)
      ∙ column_total c chain v scale walk closed

  -- a walk's total at the lifted prices is the fine total plus the factor times the bulk total
  pub lifted_total : (p : PriceRows) (factor : ℤ) (walk : List ℕ) → IsClosedWalk c walk →
      walk_total (price c (lifted_list c p factor)) walk ≡ walk_total (price c (list_at c p Fine)) walk +ℤ factor *ℤ walk_total (price c (list_at c p Bulk)) walk
  lifted_total p factor walk closed =
      sym (column_total c chain (lifted_price p factor) p.fine.scale walk closed)
      ∙ dot-add (rows c) (entries_of p.fine) (λ k. factor *ℤ entries_of p.bulk k) (column c walk)
      ∙ ap₂ (λ (x y : ℤ). x +ℤ y) (column_total c chain (entries_of p.fine) p.fine.scale walk closed)
      (dot-mul (rows c) factor (entries_of p.bulk) (column c walk) ∙ ap (λ (y : ℤ). factor *ℤ y) (column_total c chain (entries_of p.bulk) p.bulk.scale walk closed))

  -- where all bulk prices are 0, a closed walk has no bulk total
  pub nothing_in_bulk : (p : PriceRows) (walk : List ℕ) → ((k : ℕ) → k < rows c → entries_of p.bulk k ≡ pos 0) → IsClosedWalk c walk → walk_total (price c (list_at c p Bulk)) walk ≡ pos 0
  nothing_in_bulk p walk none closed =
      sym (column_total c chain (entries_of p.bulk) p.bulk.scale walk closed)
      ∙ sum_zero_each (λ k. entries_of p.bulk k *ℤ column c walk k) (rows c) (λ k inside. ap (λ (z : ℤ). z *ℤ column c walk k) (none k inside) ∙ zero-mul (column c walk k))

  -- ---- where no polygon improves
  module _ (p : PriceRows) (optimal : NoneImproves (IsPolygonColumn c) (rows c) p) where
    -- a polygon's bulk total isn't negative, and where it is 0 the fine total is at least the scale
    pub bulk_not_negative : (walk : List ℕ) → IsPolygon c walk → pos 0 ≤ℤ walk_total (price c (list_at c p Bulk)) walk
    bulk_not_negative walk polygon =
        subst (λ (z : ℤ). pos 0 ≤ℤ z) (entries_total (entries_of p.bulk) p.bulk.scale walk polygon.closed)
        (bulk_at_least (rows c) (numbers_of [] p) (column_entries c walk) (optimal walk (column_entries c walk) (record { polygon = polygon; entries_are = refl })))

    pub fine_at_scale : (walk : List ℕ) → IsPolygon c walk → walk_total (price c (list_at c p Bulk)) walk ≡ pos 0 → p.fine.scale ≤ℤ walk_total (price c (list_at c p Fine)) walk
    fine_at_scale walk polygon none =
        subst (λ (z : ℤ). p.fine.scale ≤ℤ z) (entries_total (entries_of p.fine) p.fine.scale walk polygon.closed)
        (fine_at_least (rows c) (numbers_of [] p) (column_entries c walk) (optimal walk (column_entries c walk) (record { polygon = polygon; entries_are = refl }))
        (entries_total (entries_of p.bulk) p.bulk.scale walk polygon.closed ∙ none))

    not_below : (walk : List ℕ) → ¬ IsPolygonBelow c (price_levels c p) (threshold_of p) walk
    not_below walk is = cases (below_cases (closed_total (price_levels c p) walk) (threshold_of p) refl is.below)
      where
        cases : ((closed_total (price_levels c p) walk).bulk <ℤ pos 0) ⊎ (((closed_total (price_levels c p) walk).bulk ≡ pos 0) × ((closed_total (price_levels c p) walk).fine <ℤ p.fine.scale)) → ⊥
        cases (inl less) = not_less _ (bulk_not_negative walk is.polygon) less
        cases (inr (none, less)) = not_less_than _ _ (fine_at_scale walk is.polygon none) less

    -- every closed walk costs at least the threshold
    pub closed_walks_cost : pos 0 <ℤ p.fine.scale → AllAtLeast c (price_levels c p) (threshold_of p)
    closed_walks_cost above = polygons_decide c (price_levels c p) (threshold_of p) (below_from zero_levels (threshold_of p) refl (inr (refl, above))) not_below

  -- ---- and the other way
  -- a closed walk whose column improves has a total below the threshold, and the other way
  pub improves_is : (p : PriceRows) (walk : List ℕ) → IsClosedWalk c walk → ImprovesAt (rows c) p (column_entries c walk) → IsBelow (closed_total (price_levels c p) walk) (threshold_of p)
  improves_is p walk closed (inl less) =
      below_from (closed_total (price_levels c p) walk) (threshold_of p) refl (inl (subst (λ (z : ℤ). z <ℤ pos 0) (entries_total (entries_of p.bulk) p.bulk.scale walk closed) less))
  improves_is p walk closed (inr (none, less)) =
      below_from (closed_total (price_levels c p) walk) (threshold_of p) refl
      (inr (sym (entries_total (entries_of p.bulk) p.bulk.scale walk closed) ∙ none, subst (λ (z : ℤ). z <ℤ p.fine.scale) (entries_total (entries_of p.fine) p.fine.scale walk closed) less))

  pub improves_from : (p : PriceRows) (walk : List ℕ) → IsClosedWalk c walk → IsBelow (closed_total (price_levels c p) walk) (threshold_of p) → ImprovesAt (rows c) p (column_entries c walk)
  improves_from p walk closed below = by (below_cases (closed_total (price_levels c p) walk) (threshold_of p) refl below)
    where
      by : ((closed_total (price_levels c p) walk).bulk <ℤ pos 0) ⊎ (((closed_total (price_levels c p) walk).bulk ≡ pos 0) × ((closed_total (price_levels c p) walk).fine <ℤ p.fine.scale)) → ImprovesAt (rows c) p (column_entries c walk)
      by (inl less) = inl (subst (λ (z : ℤ). z <ℤ pos 0) (sym (entries_total (entries_of p.bulk) p.bulk.scale walk closed)) less)
      by (inr (none, less)) = inr (entries_total (entries_of p.bulk) p.bulk.scale walk closed ∙ none, subst (λ (z : ℤ). z <ℤ p.fine.scale) (sym (entries_total (entries_of p.fine) p.fine.scale walk closed)) less)

  -- so where each closed walk is at least the threshold, no polygon improves
  pub none_improves : (p : PriceRows) → AllAtLeast c (price_levels c p) (threshold_of p) → NoneImproves (IsPolygonColumn c) (rows c) p
  none_improves p all key entries is improves =
      not_both (closed_total (price_levels c p) key) (threshold_of p)
      (improves_is p key is.polygon.closed (subst (ImprovesAt (rows c) p) is.entries_are improves))
      (all key is.polygon.closed)

-- the bound of the lifted list is the fine bound plus the factor times the bulk bound
pub lifted_bound : (c : Chain) (p : PriceRows) (factor : ℤ) → bound c (lifted_list c p factor) ≡ bound c (list_at c p Fine) +ℤ factor *ℤ bound c (list_at c p Bulk)
lifted_bound c p factor =
    sym (right_side_total c (lifted_price p factor) p.fine.scale)
    ∙ dot-add (rows c) (entries_of p.fine) (λ k. factor *ℤ entries_of p.bulk k) (right_side c)
    ∙ ap₂ (λ (x y : ℤ). x +ℤ y) (right_side_total c (entries_of p.fine) p.fine.scale)
    (dot-mul (rows c) factor (entries_of p.bulk) (right_side c) ∙ ap (λ (y : ℤ). factor *ℤ y) (right_side_total c (entries_of p.bulk) p.bulk.scale))
