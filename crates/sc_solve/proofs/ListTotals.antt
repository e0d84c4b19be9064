-- The totals of walks at the prices of a list, and the tables that hold the least of them.
use Rattle.std.proofs.Common.{◌≡◌, ◌≢◌, ℕ, zero, suc, ◌<◌, ◌≤◌, Bool, true, false, nat_lt, nat_eq, if◌then◌else◌, List, [], ◌∷◌, ◌++◌, map, get_or, slice_get, ℤ, pos, neg_ℤ, ◌+ℤ◌, ◌-ℤ◌, ◌≤ℤ◌, FitsSigned, Option, Some, None, arith, refl, sym, ap, subst, ◌∙◌}
use Rattle.std.specs.Int.{w128}
use Rattle.std.specs.List.{AllByRecursion}
use Rattle.std.specs.Option.{option_map}
use Rattle.std.proofs.lemmas.Int.{ints}
use Rattle.sc_weight.specs.Levels.{Levels, zero_levels, levels_sum, levels_difference}
use Rattle.sc_weight.specs.Evidence.{at_level}
use Rattle.sc_weight.specs.declared.level.Level.{Level}
use Rattle.sc_weight.specs.declared.level.Level.TheVariants.{Bulk, Fine}
use Rattle.sc_weight.specs.declared.plain.Plain.{Plain}
use Rattle.sc_whole.specs.declared.checked.Wide.{Wide as Operation}
use Rattle.sc_theory.specs.Chains.{Chain, positions, succ, first, word_of}
use Rattle.sc_theory.specs.Walks.{IsStep, IsClosedWalk, total_back, walk_total}
use Rattle.sc_theory.specs.Prices.{Prices, Tables, price, pair_price, base_price, place_of, pairs, entry, Covers, Vouch}
use Rattle.sc_theory.proofs.WalkTotals.{walk_total-congr}
use Rattle.sc_text.specs.PriceLines.{IsPriceInRange}
use Rattle.sc_text.specs.TableLines.{IsEntryInRange}
use Rattle.sc_certificate.specs.Sizes.{IsSmallList}
use Rattle.sc_tables.specs.Squares.{Square, cell}
use Rattle.sc_tables.specs.Walks.{WalksAlong, end_of}
use Rattle.sc_tables.specs.Totals.{bulk_of, fine_of, total_along, open_total, closed_total, IsBelow, IsAtMost}
use Rattle.sc_tables.specs.Tables.{AllAtLeast, IsPolygonBelow, IsLeastTotal, AreLeastTotals, VouchFor}
use Rattle.sc_tables.specs.StepPrices.{AreForChain, price_in, step_levels, list_at}
use Rattle.sc_tables.specs.StepFaults.{IsStepFault}
use Rattle.sc_tables.specs.CheapPolygons.{IsWideWalk, entry_in}
use Rattle.sc_tables.specs.declared.prices.StepFault.{StepFault}
use Rattle.sc_tables.specs.declared.prices.StepFault.TheVariants as StepFaults
use Rattle.sc_tables.proofs.LeastTotals.{open_total-step}
use Rattle.sc_tables.proofs.ShortWalks.{short_suffices}
use Rattle.sc_solve.specs.ListSteps.{plain, number, one_level, plain_levels, AreListSteps}
use Rattle.sc_solve.specs.ListTables.{IsDistance, AreDistances}
use Rattle.sc_solve.proofs.ListSizes.{price_fits, total_fits, total_in_range}

-- ---- the order at one level
at_most_is : (x y : ℤ) → IsAtMost (one_level x) (one_level y) → x ≤ℤ y
at_most_is x y h = grind (arith, ints)

at_most_from : (x y : ℤ) → x ≤ℤ y → IsAtMost (one_level x) (one_level y)
at_most_from x y h = grind (arith, ints)

not_below : (x y : ℤ) → y ≤ℤ x → IsBelow (one_level x) (one_level y) → ⊥
not_below x y h below = grind (arith, ints)

at_most_sum : (a b p : ℤ) → IsAtMost (one_level b) (levels_sum (one_level a) (one_level p)) → b ≤ℤ (a +ℤ p)
at_most_sum a b p h = grind (arith, ints)

fits_at : (level : Level) (l : Levels) (z : ℤ) → l ≡ one_level z → FitsSigned w128 z → FitsSigned w128 (at_level level l)
fits_at Bulk l z e fits =
    let none : FitsSigned w128 (pos 0) = omega (arith, ints) in subst (FitsSigned w128) (sym (ap (λ (m : Levels). m.bulk) e)) none
fits_at Fine l z e fits = subst (FitsSigned w128) (sym (ap (λ (m : Levels). m.fine) e)) fits

-- ---- the prices of steps
fine_again : (xs : List ℤ) → map (λ (w : Plain). number w) (map plain xs) ≡ xs
fine_again [] = refl
fine_again (x ∷ xs) = ap (λ (ys : List ℤ). x ∷ ys) (fine_again xs)

no_bulk : (ws : List Plain) (k : ℕ) → get_or (map (λ (w : Plain). pos 0) ws) k (pos 0) ≡ pos 0
no_bulk [] k = refl
no_bulk (w ∷ ws) zero = refl
no_bulk (w ∷ ws) (suc k) = no_bulk ws k

chosen_none : (b : Bool) (x y : ℤ) → x ≡ pos 0 → y ≡ pos 0 → (if b then x else y) ≡ pos 0
chosen_none true x y e f = e
chosen_none false x y e f = f

sum_none : (x y : ℤ) → x ≡ pos 0 → y ≡ pos 0 → x +ℤ y ≡ pos 0
sum_none x y e f = omega (arith, ints)

no_price : (c : Chain) (l : Prices) → ((k : ℕ) → get_or l.pair k (pos 0) ≡ pos 0) → ((k : ℕ) → get_or l.base k (pos 0) ≡ pos 0) → (i j : ℕ) → price c l i j ≡ pos 0
no_price c l pair base i j =
    sum_none (pair_price c l (succ c i) j) (base_price c l j)
    (chosen_none (nat_lt (succ c i) j) _ _ (pair (place_of (pairs c) (succ c i) j))
    (chosen_none (nat_lt j (succ c i)) _ _ (ap neg_ℤ (pair (place_of (pairs c) j (succ c i)))) refl))
    (chosen_none (nat_eq j (first c (word_of c j))) _ _ (base (word_of c j)) refl)

step_levels_is : (c : Chain) (list : Prices) (i j : ℕ) → step_levels plain_levels c (map plain list.pair) (map plain list.base) i j ≡ one_level (price c list i j)
step_levels_is c list i j =
    λ k. record {
      bulk = no_price c (list_at plain_levels (map plain list.pair) (map plain list.base) Bulk) (no_bulk (map plain list.pair)) (no_bulk (map plain list.base)) i j k;
      fine = price c (record { scale = pos 1; base = fine_again list.base k; pair = fine_again list.pair k }) i j;
    }

-- a square with the steps' prices by the list's numbers as weights has the prices of the list
pub steps_by_list : (c : Chain) (list : Prices) (t : Square Plain) (pair base : List Plain) → pair ≡ map plain list.pair → base ≡ map plain list.base → AreForChain c t
    → ((i j : ℕ) → IsStep c i j → price_in plain_levels t i j ≡ step_levels plain_levels c pair base i j) → AreListSteps c list t
steps_by_list c list t pair base e f steps prices =
    record {
      steps = steps;
      same = λ i j step.
          prices i j step
          ∙ ap (λ (ws : List Plain). step_levels plain_levels c ws base i j) e
          ∙ ap (λ (ws : List Plain). step_levels plain_levels c (map plain list.pair) ws i j) f
          ∙ step_levels_is c list i j;
    }

-- no price of a step is too wide
row_in_range : (xs : List ℤ) (k : ℕ) (w : Plain) → AllByRecursion IsPriceInRange xs → slice_get (map plain xs) k ≡ Some w → IsPriceInRange (number w)
row_in_range [] k w all e = absurd (cc)
row_in_range (x ∷ xs) zero w all e = let same : plain x ≡ w = cc in subst (λ (v : Plain). IsPriceInRange (number v)) same all.0
row_in_range (x ∷ xs) (suc k) w all e = row_in_range xs k w all.1 e

negative_fits : (z : ℤ) → IsPriceInRange z → FitsSigned w128 (pos 0 -ℤ z)
negative_fits z h = omega (arith, ints, h.low, h.high)

module _ (c : Chain) (list : Prices) (small : IsSmallList list) where
  none_too_wide : (fault : StepFault) → IsStepFault plain_levels c (map plain list.pair) (map plain list.base) fault → fault ≢ StepFaults.Memory → ⊥
  none_too_wide (StepFaults.Turn row level wide) (w, here, first) other =
      first.outside (fits_at level (levels_difference zero_levels (plain_levels w)) (pos 0 -ℤ number w) refl (negative_fits (number w) (row_in_range list.pair row w small.pair here)))
  none_too_wide (StepFaults.Step i j level wide) (step, first) other =
      first.outside (fits_at level (step_levels plain_levels c (map plain list.pair) (map plain list.base) i j) (price c list i j) (step_levels_is c list i j) (price_fits c list small i j))
  none_too_wide StepFaults.Memory is other = other refl

  -- at the numbers of a small list no price of a step is refused but for want of memory
  pub no_step_fault : (pair base : List Plain) → pair ≡ map plain list.pair → base ≡ map plain list.base → (fault : StepFault) → IsStepFault plain_levels c pair base fault → fault ≢ StepFaults.Memory → ⊥
  no_step_fault pair base e f fault is other =
      none_too_wide fault
      (subst (λ (ws : List Plain). IsStepFault plain_levels c (map plain list.pair) ws fault) f
      (subst (λ (ws : List Plain). IsStepFault plain_levels c ws base fault) e is))
      other

-- ---- totals
zero_along : (i : ℕ) (js : List ℕ) → total_along (λ p q. pos 0) i js ≡ pos 0
zero_along i [] = refl
zero_along i (j ∷ js) = sum_none (pos 0) (total_along (λ p q. pos 0) j js) refl (zero_along j js)

zero_back : (start i : ℕ) (js : List ℕ) → total_back (λ p q. pos 0) start i js ≡ pos 0
zero_back start i [] = refl
zero_back start i (j ∷ js) = sum_none (pos 0) (total_back (λ p q. pos 0) start j js) refl (zero_back start j js)

zero_total : (walk : List ℕ) → walk_total (λ p q. pos 0) walk ≡ pos 0
zero_total [] = refl
zero_total (i ∷ js) = zero_back i i js

along-congr : (c : Chain) (f g : ℕ → ℕ → ℤ) → ((i j : ℕ) → IsStep c i j → f i j ≡ g i j) → (i : ℕ) (js : List ℕ) → WalksAlong c i js → total_along f i js ≡ total_along g i js
along-congr c f g same i [] walks = refl
along-congr c f g same i (j ∷ js) walks =
    ap (λ (x : ℤ). x +ℤ total_along f j js) (same i j walks.0) ∙ ap (λ (x : ℤ). g i j +ℤ x) (along-congr c f g same j js walks.1)

module _ (c : Chain) (list : Prices) (t : Square Plain) (own : AreListSteps c list t) where
  bulk_is : (i j : ℕ) → IsStep c i j → bulk_of (price_in plain_levels t) i j ≡ pos 0
  bulk_is i j step = ap (λ (l : Levels). l.bulk) (own.same i j step)

  fine_is : (i j : ℕ) → IsStep c i j → fine_of (price_in plain_levels t) i j ≡ price c list i j
  fine_is i j step = ap (λ (l : Levels). l.fine) (own.same i j step)

  open_is : (i : ℕ) (js : List ℕ) → WalksAlong c i js → open_total (price_in plain_levels t) i js ≡ one_level (total_along (price c list) i js)
  open_is i js walks =
      let bulk : total_along (bulk_of (price_in plain_levels t)) i js ≡ pos 0 = along-congr c (bulk_of (price_in plain_levels t)) (λ p q. pos 0) bulk_is i js walks ∙ zero_along i js in
      let fine : total_along (fine_of (price_in plain_levels t)) i js ≡ total_along (price c list) i js = along-congr c (fine_of (price_in plain_levels t)) (price c list) fine_is i js walks in
      λ k. record { bulk = bulk k; fine = fine k }

  closed_is : (walk : List ℕ) → IsClosedWalk c walk → closed_total (price_in plain_levels t) walk ≡ one_level (walk_total (price c list) walk)
  closed_is walk closed =
      let bulk : walk_total (bulk_of (price_in plain_levels t)) walk ≡ pos 0 = walk_total-congr c (bulk_of (price_in plain_levels t)) (λ p q. pos 0) bulk_is walk closed ∙ zero_total walk in
      let fine : walk_total (fine_of (price_in plain_levels t)) walk ≡ walk_total (price c list) walk = walk_total-congr c (fine_of (price_in plain_levels t)) (price c list) fine_is walk closed in
      λ k. record { bulk = bulk k; fine = fine k }

  -- ---- no polygon undercuts the scale of a covering list
  -- at the prices of a list that covers the chain no polygon is below the scale
  pub no_cheap_polygon : Covers c list → (walk : List ℕ) → IsPolygonBelow c (price_in plain_levels t) (one_level list.scale) walk → ⊥
  no_cheap_polygon covers walk cheap =
      not_below (walk_total (price c list) walk) list.scale (covers walk cheap.polygon.closed)
      (subst (λ (l : Levels). IsBelow l (one_level list.scale)) (closed_is walk cheap.polygon.closed) cheap.below)

  -- ---- no total is too wide
  module _ (small : IsSmallList list) (few : positions c ≤ 64) where
    -- at the prices of a small list no total of a walk is too wide
    pub no_wide_walk : (walk : List ℕ) (level : Level) (wide : Operation) → IsWideWalk c (price_in plain_levels t) walk level wide → ⊥
    no_wide_walk walk level wide is =
        let whole = open_total-step (price_in plain_levels t) is.start is.front (end_of is.start is.front) is.last refl in
        is.evidence.outside
        (fits_at level _ (total_along (price c list) is.start (is.front ++ is.last ∷ []))
        (sym whole ∙ open_is is.start (is.front ++ is.last ∷ []) is.steps)
        (total_fits c list small is.start (is.front ++ is.last ∷ []) (omega (arith, is.few, few))))

    -- ---- the entries are in their range
    module _ (covers : Covers c list) where
      not_negative : AllAtLeast c (price_in plain_levels t) zero_levels
      not_negative walk closed =
          let enough : pos 0 ≤ℤ walk_total (price c list) walk = omega (arith, ints, covers walk closed, small.scale.low) in
          subst (IsAtMost zero_levels) (sym (closed_is walk closed)) (at_most_from (pos 0) (walk_total (price c list) walk) enough)

      -- the least total of walks from s to j is in the range of entries
      pub entry_small : (s j : ℕ) → s < positions c → (o : Option Plain) → IsLeastTotal c (price_in plain_levels t) s j (option_map plain_levels o) → IsEntryInRange (option_map number o)
      entry_small s j inside None least = tt
      entry_small s j inside (Some w) least =
          let (js, leads, total) = least.reached in
          let short = short_suffices c (price_in plain_levels t) not_negative s j inside js leads in
          let here : open_total (price_in plain_levels t) s short.walk ≡ one_level (total_along (price c list) s short.walk) = open_is s short.walk short.leads.walks in
          let low : total_along (price c list) s short.walk ≤ℤ number w =
          at_most_is (total_along (price c list) s short.walk) (number w)
          (subst (λ (l : Levels). IsAtMost l (plain_levels w)) here (subst (IsAtMost (open_total (price_in plain_levels t) s short.walk)) total short.lower)) in
          let high : number w ≤ℤ total_along (price c list) s short.walk =
          at_most_is (number w) (total_along (price c list) s short.walk) (subst (IsAtMost (plain_levels w)) here (least.least short.walk short.leads)) in
          let same : total_along (price c list) s short.walk ≡ number w = omega (arith, ints, low, high) in
          subst (λ (z : ℤ). IsEntryInRange (Some z)) same (total_in_range c list small s short.walk (omega (arith, short.short, few)))

  -- ---- from the totals to the numbers
  -- the least total at the prices of the square is the least price of the list
  pub distance_is : (s j : ℕ) (o : Option Plain) → IsLeastTotal c (price_in plain_levels t) s j (option_map plain_levels o) → IsDistance c list s j (option_map number o)
  distance_is s j None none = none
  distance_is s j (Some w) least =
      let (js, leads, total) = least.reached in
      record {
        reached = (js, leads, ap (λ (l : Levels). l.fine) (sym (open_is s js leads.walks) ∙ total));
        least = λ ks to.
            at_most_is (number w) (total_along (price c list) s ks) (subst (IsAtMost (plain_levels w)) (open_is s ks to.walks) (least.least ks to));
      }

number_at : (o : Option Plain) (l : Levels) → option_map plain_levels o ≡ Some l → option_map number o ≡ Some l.fine
number_at None l e = absurd (cc)
number_at (Some w) l e = ap (option_map (λ (m : Levels). m.fine)) e

levels_at : (o : Option Plain) (z : ℤ) → option_map number o ≡ Some z → option_map plain_levels o ≡ Some (one_level z)
levels_at None z e = absurd (cc)
levels_at (Some w) z e = ap (option_map one_level) e

one_level_at : (o : Option Plain) (l : Levels) → option_map plain_levels o ≡ Some l → l ≡ one_level l.fine
one_level_at None l e = absurd (cc)
one_level_at (Some w) l e = let same : plain_levels w ≡ l = cc in sym same ∙ ap (λ (m : Levels). one_level m.fine) same

module _ (c : Chain) (list : Prices) (t d : Square Plain) (tables : Tables) (own : AreListSteps c list t) (same : (s j : ℕ) → s < positions c → j < positions c → entry tables s j ≡ option_map number (cell d s j)) where
  -- where totals vouch for the scale, the tables of their numbers vouch for the list
  pub vouch_is : VouchFor c (price_in plain_levels t) (one_level list.scale) (entry_in plain_levels d) → Vouch c list tables
  vouch_is v =
      record {
        starts = λ s inside. same s s inside inside ∙ number_at (cell d s s) zero_levels (v.starts s inside);
        goes = λ s i j a inside step present other.
            (let there = levels_at (cell d s i) a (sym (same s i inside step.from) ∙ present) in
            let (b, is, low) = v.goes s i j (one_level a) inside step there other in
            let lower = subst (λ (l : Levels). IsAtMost l (levels_sum (one_level a) (price_in plain_levels t i j))) (one_level_at (cell d s j) b is) low in (
              b.fine,
              same s j inside step.to ∙ number_at (cell d s j) b is,
              at_most_sum a b.fine (price c list i j) (subst (λ (l : Levels). IsAtMost (one_level b.fine) (levels_sum (one_level a) l)) (own.same i j step) lower),
            ));
        returns = λ s i a inside step present.
            (let there = levels_at (cell d s i) a (sym (same s i inside step.from) ∙ present) in
            at_most_sum a list.scale (price c list i s)
            (subst (λ (l : Levels). IsAtMost (one_level list.scale) (levels_sum (one_level a) l)) (own.same i s step) (v.returns s i (one_level a) inside step there)));
      }

  -- and where the totals are least, these tables hold the least prices of walks
  pub distances_are : AreLeastTotals c (price_in plain_levels t) (entry_in plain_levels d) → AreDistances c list tables
  distances_are least s j start place =
      subst (IsDistance c list s j) (sym (same s j start place)) (distance_is c list t own s j (cell d s j) (least s j start place))
