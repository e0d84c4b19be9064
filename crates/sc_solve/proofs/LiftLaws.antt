-- The lift covers where no polygon improves.
use Rattle.std.proofs.Common.{◌≡◌, ℕ, suc, ◌≤◌, ◌⊎◌, inl, inr, List, [], ◌∷◌, length, ℤ, pos, negsuc, neg_ℤ, ◌+ℤ◌, ◌*ℤ◌, ◌≤ℤ◌, ◌<ℤ◌, unsigned_abs, arith, refl, sym, ap, subst, ◌∙◌}
use Rattle.std.proofs.lemmas.Int.{ints}
use Rattle.sc_algebra.proofs.Ints.{le_antisymm, mul_comm, mul-zero, mul-one, suc-mul, one-mul, pos-le, mul-le_factor}
use Rattle.sc_theory.specs.Chains.{Chain, IsChain, positions}
use Rattle.sc_theory.specs.Walks.{IsStep, WalksBack, IsClosedWalk, IsPolygon, walk_total, total_back}
use Rattle.sc_theory.specs.Prices.{Prices, price, Covers}
use Rattle.sc_theory.specs.Columns.{rows}
use Rattle.sc_weight.specs.Levels.{Levels, zero_levels}
use Rattle.sc_weight.specs.declared.level.Level.TheVariants.{Bulk, Fine}
use Rattle.sc_rows.specs.Standing.{ArePrices}
use Rattle.sc_rows.specs.declared.prices.PriceRows.{PriceRows}
use Rattle.sc_simplex.specs.Oracles.{NoneImproves}
use Rattle.sc_tables.specs.Totals.{closed_total}
use Rattle.sc_tables.specs.Tables.{IsPolygonBelow}
use Rattle.sc_tables.proofs.Polygons.{polygons_decide}
use Rattle.sc_tables.proofs.Repeats.{simple_is_short}
use Rattle.sc_tables.proofs.WalkLaws.{closed_inside}
use Rattle.sc_solve.specs.PriceLevels.{list_at, lifted_list}
use Rattle.sc_solve.specs.PolygonColumns.{IsPolygonColumn}
use Rattle.sc_solve.specs.Lifts.{IsGreatestSize, IsFactor, IsLift}
use Rattle.sc_solve.proofs.PolygonPrices.{lifted_total, nothing_in_bulk, bulk_not_negative, fine_at_scale, below_from, below_cases, fine_at_most}

-- ---- a walk costs at least minus its steps times the greatest size
one_step : (x f : ℤ) → neg_ℤ f ≤ℤ x → neg_ℤ (pos 1 *ℤ f) ≤ℤ x
one_step x f h = subst (λ (z : ℤ). neg_ℤ z ≤ℤ x) (sym (one-mul f)) h

step_more : (n : ℕ) (x f rest : ℤ) → neg_ℤ f ≤ℤ x → neg_ℤ (pos n *ℤ f) ≤ℤ rest → neg_ℤ (pos (suc n) *ℤ f) ≤ℤ (x +ℤ rest)
step_more n x f rest h k = subst (λ (z : ℤ). neg_ℤ z ≤ℤ (x +ℤ rest)) (sym (suc-mul n f)) (together (pos n *ℤ f) h k)
  where
    together : (nf : ℤ) → neg_ℤ f ≤ℤ x → neg_ℤ nf ≤ℤ rest → neg_ℤ (nf +ℤ f) ≤ℤ (x +ℤ rest)
    together nf h k = omega (arith, ints)

back_at_least : (c : Chain) (f : ℕ → ℕ → ℤ) (size : ℤ) → ((i j : ℕ) → IsStep c i j → neg_ℤ size ≤ℤ f i j) → (start i : ℕ) (js : List ℕ) → WalksBack c start i js → neg_ℤ (pos (suc (length js)) *ℤ size) ≤ℤ total_back f start i js
back_at_least c f size low start i [] walk = one_step (f i start) size (low i start walk)
back_at_least c f size low start i (j ∷ js) walk =
    step_more (suc (length js)) (f i j) size (total_back f start j js) (low i j walk.0) (back_at_least c f size low start j js walk.1)

total_at_least : (c : Chain) (f : ℕ → ℕ → ℤ) (size : ℤ) → ((i j : ℕ) → IsStep c i j → neg_ℤ size ≤ℤ f i j) → (walk : List ℕ) → IsClosedWalk c walk → neg_ℤ (pos (length walk) *ℤ size) ≤ℤ walk_total f walk
total_at_least c f size low [] closed = absurd closed
total_at_least c f size low (i ∷ js) closed = back_at_least c f size low i i js closed

size_not_negative : (c : Chain) (f : ℕ → ℕ → ℤ) (size : ℤ) → IsGreatestSize c f size → pos 0 ≤ℤ size
size_not_negative c f size is = by is.reached
  where
    by : (size ≡ pos 0) ⊎ ((i : ℕ) × (j : ℕ) × IsStep c i j × (size ≡ pos (unsigned_abs (f i j)))) → pos 0 ≤ℤ size
    by (inl e) = omega (arith, ints)
    by (inr (i, j, step, e)) = omega (arith, ints)

-- a polygon has at most as many steps as there are positions
polygon_at_least : (c : Chain) (f : ℕ → ℕ → ℤ) (size : ℤ) → IsGreatestSize c f size → (walk : List ℕ) → IsPolygon c walk → neg_ℤ (pos (positions c) *ℤ size) ≤ℤ walk_total f walk
polygon_at_least c f size is walk polygon =
    lower (pos (length walk) *ℤ size) (pos (positions c) *ℤ size) (walk_total f walk) short (total_at_least c f size is.low walk polygon.closed)
  where
    few : length walk ≤ positions c
    few = simple_is_short (positions c) walk polygon.simple (closed_inside c walk polygon.closed)

    lower : (x y z : ℤ) → x ≤ℤ y → neg_ℤ x ≤ℤ z → neg_ℤ y ≤ℤ z
    lower x y z h k = omega (arith, ints)

    turned : (a b : ℤ) → (size *ℤ a) ≤ℤ (size *ℤ b) → (a *ℤ size) ≤ℤ (b *ℤ size)
    turned a b h = subst (λ (z : ℤ). z ≤ℤ (b *ℤ size)) (mul_comm size a) (subst (λ (z : ℤ). (size *ℤ a) ≤ℤ z) (mul_comm size b) h)

    short : (pos (length walk) *ℤ size) ≤ℤ (pos (positions c) *ℤ size)
    short = turned (pos (length walk)) (pos (positions c)) (mul-le_factor size (pos (length walk)) (pos (positions c)) (size_not_negative c f size is) (pos-le (length walk) (positions c) few))

-- ---- the lifted price of a polygon
alone : (x y factor d : ℤ) → y ≡ pos 0 → d ≤ℤ x → d ≤ℤ (x +ℤ factor *ℤ y)
alone x y factor d e h = subst (λ (z : ℤ). d ≤ℤ (x +ℤ z)) (sym (ap (λ (z : ℤ). factor *ℤ z) e ∙ mul-zero factor)) (more x d h)
  where
    more : (x d : ℤ) → d ≤ℤ x → d ≤ℤ (x +ℤ pos 0)
    more x d h = omega (arith, ints)

lifted_by_bulk : (x y d pf factor : ℤ) → factor ≡ d +ℤ pf → pos 0 ≤ℤ factor → neg_ℤ pf ≤ℤ x → pos 1 ≤ℤ y → d ≤ℤ (x +ℤ factor *ℤ y)
lifted_by_bulk x y d pf factor e above low one = joined (factor *ℤ y) (subst (λ (z : ℤ). z ≤ℤ (factor *ℤ y)) (mul-one factor) (mul-le_factor factor (pos 1) y above one))
  where
    joined : (fy : ℤ) → factor ≤ℤ fy → d ≤ℤ (x +ℤ fy)
    joined fy h = omega (arith, ints)

none_or_some : (y : ℤ) → pos 0 ≤ℤ y → (y ≡ pos 0) ⊎ (pos 1 ≤ℤ y)
none_or_some y h = grind (arith, ints)

product_not_negative : (n : ℕ) (size : ℤ) → pos 0 ≤ℤ size → pos 0 ≤ℤ (pos n *ℤ size)
product_not_negative n size h = subst (λ (z : ℤ). z ≤ℤ (pos n *ℤ size)) (mul-zero (pos n)) (mul-le_factor (pos n) (pos 0) size (omega (arith, ints)) h)

module _ (c : Chain) (chain : IsChain c) (p : PriceRows) (above : pos 0 <ℤ p.fine.scale) (optimal : NoneImproves (IsPolygonColumn c) (rows c) p) where
  lifted_at_least : (factor : ℤ) → IsFactor c p factor → (walk : List ℕ) → IsPolygon c walk → p.fine.scale ≤ℤ (walk_total (price c (list_at c p Fine)) walk +ℤ factor *ℤ walk_total (price c (list_at c p Bulk)) walk)
  lifted_at_least factor (inl (none, e)) walk polygon =
      let nothing = nothing_in_bulk c chain p walk none polygon.closed in
      alone _ _ factor p.fine.scale nothing (fine_at_scale c chain p optimal walk polygon nothing)
  lifted_at_least factor (inr full) walk polygon = by (none_or_some _ (bulk_not_negative c chain p optimal walk polygon))
    where
      size_above : pos 0 ≤ℤ (pos (positions c) *ℤ full.size)
      size_above = product_not_negative (positions c) full.size (size_not_negative c (price c (list_at c p Fine)) full.size full.greatest)

      sum_above : (d pf m : ℤ) → pos 0 <ℤ d → pos 0 ≤ℤ pf → m ≡ d +ℤ pf → pos 0 ≤ℤ m
      sum_above d pf m h k e = omega (arith, ints)

      by : (walk_total (price c (list_at c p Bulk)) walk ≡ pos 0) ⊎ (pos 1 ≤ℤ walk_total (price c (list_at c p Bulk)) walk) → p.fine.scale ≤ℤ (walk_total (price c (list_at c p Fine)) walk +ℤ factor *ℤ walk_total (price c (list_at c p Bulk)) walk)
      by (inl nothing) = alone _ _ factor p.fine.scale nothing (fine_at_scale c chain p optimal walk polygon nothing)
      by (inr some) =
          lifted_by_bulk _ _ p.fine.scale (pos (positions c) *ℤ full.size) factor full.factor_is (sum_above p.fine.scale _ factor above size_above full.factor_is)
          (polygon_at_least c (price c (list_at c p Fine)) full.size full.greatest walk polygon) some

  polygon_covered : (factor : ℤ) → IsFactor c p factor → (walk : List ℕ) → IsPolygon c walk → p.fine.scale ≤ℤ walk_total (price c (lifted_list c p factor)) walk
  polygon_covered factor is walk polygon =
      subst (λ (z : ℤ). p.fine.scale ≤ℤ z) (sym (lifted_total c chain p factor walk polygon.closed)) (lifted_at_least factor is walk polygon)

-- ---- from polygons to closed walks, at one level
nothing_back : (start i : ℕ) (js : List ℕ) → total_back (λ (a b : ℕ). pos 0) start i js ≡ pos 0
nothing_back start i [] = refl
nothing_back start i (j ∷ js) = ap (λ (z : ℤ). pos 0 +ℤ z) (nothing_back start j js)

nothing_total : (walk : List ℕ) → walk_total (λ (a b : ℕ). pos 0) walk ≡ pos 0
nothing_total [] = refl
nothing_total (i ∷ js) = nothing_back i i js

abbrev fine_only : (ℕ → ℕ → ℤ) → ℕ → ℕ → Levels
fine_only f i j = record { bulk = pos 0; fine = f i j }

abbrev fine_threshold : ℤ → Levels
fine_threshold d = record { bulk = pos 0; fine = d }

not_less_than : (x y : ℤ) → y ≤ℤ x → x <ℤ y → ⊥
not_less_than x y h k = omega (arith, ints)

none_negative : (x : ℤ) → x ≡ pos 0 → x <ℤ pos 0 → ⊥
none_negative x e h = omega (arith, ints)

-- a list covers its chain where each polygon costs at least its scale, which is above 0
pub covers_by_polygons : (c : Chain) (list : Prices) → pos 0 <ℤ list.scale → ((walk : List ℕ) → IsPolygon c walk → list.scale ≤ℤ walk_total (price c list) walk) → Covers c list
covers_by_polygons c list above each walk closed =
    fine_at_most (closed_total (fine_only (price c list)) walk) (fine_threshold list.scale) refl (nothing_total walk)
    (polygons_decide c (fine_only (price c list)) (fine_threshold list.scale) (below_from zero_levels (fine_threshold list.scale) refl (inr (refl, above))) not_below walk closed)
  where
    not_below : (w : List ℕ) → ¬ IsPolygonBelow c (fine_only (price c list)) (fine_threshold list.scale) w
    not_below w is = by (below_cases (closed_total (fine_only (price c list)) w) (fine_threshold list.scale) refl is.below)
      where
        by : ((closed_total (fine_only (price c list)) w).bulk <ℤ pos 0) ⊎ (((closed_total (fine_only (price c list)) w).bulk ≡ pos 0) × ((closed_total (fine_only (price c list)) w).fine <ℤ list.scale)) → ⊥
        by (inl less) = none_negative _ (nothing_total w) less
        by (inr (none, less)) = not_less_than _ _ (each w is.polygon) less

-- the lift of prices that no polygon improves covers the chain
pub lift_covers : (c : Chain) (p : PriceRows) (list : Prices) → IsChain c → ArePrices (rows c) p → NoneImproves (IsPolygonColumn c) (rows c) p → IsLift c p list → Covers c list
lift_covers c p list chain prices optimal is =
    subst (Covers c) (sym is.list_is)
    (covers_by_polygons c (lifted_list c p is.factor) prices.fine_scale (polygon_covered c chain p prices.fine_scale optimal is.factor is.is_factor))

-- ---- there is one lift
size_reached : (c : Chain) (f : ℕ → ℕ → ℤ) (x y : ℤ) → IsGreatestSize c f x → IsGreatestSize c f y → x ≤ℤ y
size_reached c f x y is also = by is.reached
  where
    within : (z bound : ℤ) → neg_ℤ bound ≤ℤ z → z ≤ℤ bound → pos (unsigned_abs z) ≤ℤ bound
    within (pos n) bound low high = omega (arith, ints)
    within (negsuc n) bound low high = omega (arith, ints)

    by : (x ≡ pos 0) ⊎ ((i : ℕ) × (j : ℕ) × IsStep c i j × (x ≡ pos (unsigned_abs (f i j)))) → x ≤ℤ y
    by (inl e) = subst (λ (z : ℤ). z ≤ℤ y) (sym e) (size_not_negative c f y also)
    by (inr (i, j, step, e)) = subst (λ (z : ℤ). z ≤ℤ y) (sym e) (within (f i j) y (also.low i j step) (also.high i j step))

one_factor : (c : Chain) (p : PriceRows) (m n : ℤ) → IsFactor c p m → IsFactor c p n → m ≡ n
one_factor c p m n (inl (none, e)) (inl (none_too, h)) = e ∙ sym h
one_factor c p m n (inl (none, e)) (inr full) = absurd (full.some_bulk none)
one_factor c p m n (inr full) (inl (none, e)) = absurd (full.some_bulk none)
one_factor c p m n (inr full) (inr also) =
    full.factor_is
    ∙ ap (λ (z : ℤ). p.fine.scale +ℤ pos (positions c) *ℤ z)
    (le_antisymm full.size also.size (size_reached c (price c (list_at c p Fine)) full.size also.size full.greatest also.greatest)
    (size_reached c (price c (list_at c p Fine)) also.size full.size also.greatest full.greatest))
    ∙ sym also.factor_is

-- prices have one lift
pub one_lift : (c : Chain) (p : PriceRows) (list other : Prices) → IsLift c p list → IsLift c p other → list ≡ other
one_lift c p list other is also = is.list_is ∙ ap (lifted_list c p) (one_factor c p is.factor also.factor is.is_factor also.is_factor) ∙ sym also.list_is
