-- The prices of steps by the pairs of the rows' prices.
use Rattle.std.proofs.Common.{◌≡◌, ℕ, ◌<◌, List, [], ◌∷◌, map, length, get_or, slice_get, Some, None, ℤ, pos, ◌+ℤ◌, ◌-ℤ◌, arith, inl, inr, refl, sym, ap, ap₂, subst, ◌∙◌, FitsSigned}
use Rattle.std.specs.Int.{w128}
use Rattle.std.specs.List.{range_with_len}
use Rattle.std.proofs.lemmas.List.FromFn.{get_or-map-range_with_len, length-map-range_with_len}
use Rattle.std.proofs.lemmas.Option.{get_or_from_slice_get, slice_get_within}
use Rattle.sc_theory.specs.Chains.{Chain, succ}
use Rattle.sc_theory.specs.Prices.{pairs, price, pair_price, base_price}
use Rattle.sc_weight.specs.Levels.{Levels, zero_levels, levels_sum, levels_difference}
use Rattle.sc_weight.specs.Evidence.{at_level}
use Rattle.sc_weight.specs.declared.level.Level.{Level}
use Rattle.sc_weight.specs.declared.level.Level.TheVariants.{Bulk, Fine}
use Rattle.sc_weight.specs.declared.pair.Pair.{Pair}
use Rattle.sc_whole.specs.Operation.{step}
use Rattle.sc_whole.specs.declared.checked.Op.{Op}
use Rattle.sc_whole.specs.declared.checked.Op.TheVariants.{Add, Sub}
use Rattle.sc_whole.specs.declared.checked.Wide.{Wide as Operation}
use Rattle.sc_rows.specs.Standing.{entries_of}
use Rattle.sc_rows.specs.Places.{spot, wide_at, IsWideBy}
use Rattle.sc_rows.specs.declared.fault.Place.TheVariants.{TurnPrice, StepPrice}
use Rattle.sc_rows.specs.declared.prices.PriceRows.{PriceRows}
use Rattle.sc_tables.specs.StepPrices.{list_at as table_list, pair_levels, base_levels, step_levels}
use Rattle.sc_tables.specs.StepFaults.{IsStepFault}
use Rattle.sc_tables.specs.declared.prices.StepFault.{StepFault}
use Rattle.sc_tables.specs.declared.prices.StepFault.TheVariants.{Turn, Step, Memory}
use Rattle.sc_solve.specs.PriceLevels.{row_at, list_at, price_levels}
use Rattle.sc_solve.specs.inside.PriceLevels.{levels_of, pair_of_row}
use Rattle.sc_solve.specs.Searches.{IsWidePrice}
use Rattle.sc_solve.specs.inside.Searches.{refusal_of_step}

numbers_along : (p : PriceRows) (level : Level) (ks : List ℕ) → map (λ w. at_level level (levels_of w)) (map (pair_of_row p) ks) ≡ map (entries_of (row_at p level)) ks
numbers_along p level [] = refl
numbers_along p Bulk (k ∷ ks) = ap (λ (xs : List ℤ). entries_of p.bulk k ∷ xs) (numbers_along p Bulk ks)
numbers_along p Fine (k ∷ ks) = ap (λ (xs : List ℤ). entries_of p.fine k ∷ xs) (numbers_along p Fine ks)

same_pair_price : (c : Chain) (s t : ℤ) (b d x y : List ℤ) (i j : ℕ) → x ≡ y → pair_price c (record { scale = s; base = b; pair = x }) i j ≡ pair_price c (record { scale = t; base = d; pair = y }) i j
same_pair_price c s t b d x y i j e = ap (λ (z : List ℤ). pair_price c (record { scale = s; base = b; pair = z }) i j) e

same_base_price : (c : Chain) (s t : ℤ) (b d x y : List ℤ) (j : ℕ) → b ≡ d → base_price c (record { scale = s; base = b; pair = x }) j ≡ base_price c (record { scale = t; base = d; pair = y }) j
same_base_price c s t b d x y j e = ap (λ (z : List ℤ). base_price c (record { scale = s; base = z; pair = x }) j) e

operation_is : (wide : Operation) (op : Op) (x y : ℤ) → wide.op ≡ op → wide.x ≡ x → wide.y ≡ y → wide ≡ step op x y
operation_is wide op x y eo ex ey = λ i. record { op = eo i; x = ex i; y = ey i }

module _ (c : Chain) (p : PriceRows) (pair base : List Pair) (pair_is : pair ≡ map (pair_of_row p) (range_with_len 0 (length (pairs c)))) (base_is : base ≡ map (pair_of_row p) (range_with_len (length (pairs c)) (length c))) where
  pair_numbers : (level : Level) → map (λ w. at_level level (levels_of w)) pair ≡ (list_at c p level).pair
  pair_numbers level = ap (λ (ws : List Pair). map (λ w. at_level level (levels_of w)) ws) pair_is ∙ numbers_along p level (range_with_len 0 (length (pairs c)))

  base_numbers : (level : Level) → map (λ w. at_level level (levels_of w)) base ≡ (list_at c p level).base
  base_numbers level = ap (λ (ws : List Pair). map (λ w. at_level level (levels_of w)) ws) base_is ∙ numbers_along p level (range_with_len (length (pairs c)) (length c))

  pair_at_level : (level : Level) (i j : ℕ) → at_level level (pair_levels levels_of c pair i j) ≡ pair_price c (list_at c p level) i j
  pair_at_level Bulk i j = same_pair_price c (pos 1) p.bulk.scale [] (list_at c p Bulk).base _ (list_at c p Bulk).pair i j (pair_numbers Bulk)
  pair_at_level Fine i j = same_pair_price c (pos 1) p.fine.scale [] (list_at c p Fine).base _ (list_at c p Fine).pair i j (pair_numbers Fine)

  base_at_level : (level : Level) (j : ℕ) → at_level level (base_levels levels_of c base j) ≡ base_price c (list_at c p level) j
  base_at_level Bulk j = same_base_price c (pos 1) p.bulk.scale _ (list_at c p Bulk).base [] (list_at c p Bulk).pair j (base_numbers Bulk)
  base_at_level Fine j = same_base_price c (pos 1) p.fine.scale _ (list_at c p Fine).base [] (list_at c p Fine).pair j (base_numbers Fine)

  -- the price of a step by the pairs of the rows' prices is its price at both levels
  pub step_is : (i j : ℕ) → step_levels levels_of c pair base i j ≡ price_levels c p i j
  step_is i j =
      let bulk : pair_price c (table_list levels_of pair base Bulk) (succ c i) j +ℤ base_price c (table_list levels_of pair base Bulk) j ≡ price c (list_at c p Bulk) i j =
      ap₂ (λ (x y : ℤ). x +ℤ y) (pair_at_level Bulk (succ c i) j) (base_at_level Bulk j) in
      let fine : pair_price c (table_list levels_of pair base Fine) (succ c i) j +ℤ base_price c (table_list levels_of pair base Fine) j ≡ price c (list_at c p Fine) i j =
      ap₂ (λ (x y : ℤ). x +ℤ y) (pair_at_level Fine (succ c i) j) (base_at_level Fine j) in
      λ k. record { bulk = bulk k; fine = fine k }

  -- the price of a row
  row_number : (level : Level) (row : ℕ) (w : Pair) → slice_get pair row ≡ Some w → at_level level (levels_of w) ≡ entries_of (row_at p level) row
  row_number level row w here = ap (λ (v : Pair). at_level level (levels_of v)) (sym (get_or_from_slice_get pair row w w here) ∙ at_row) ∙ number level
    where
      inside : row < length (pairs c)
      inside = subst (λ (n : ℕ). row < n) (ap length pair_is ∙ length-map-range_with_len (pair_of_row p) 0 (length (pairs c))) (slice_get_within pair row w here)

      at_row : get_or pair row w ≡ pair_of_row p row
      at_row = ap (λ (ws : List Pair). get_or ws row w) pair_is ∙ get_or-map-range_with_len (pair_of_row p) 0 (length (pairs c)) row row w inside (omega arith)

      number : (l : Level) → at_level l (levels_of (pair_of_row p row)) ≡ entries_of (row_at p l) row
      number Bulk = refl
      number Fine = refl

  row_inside : (row : ℕ) (w : Pair) → slice_get pair row ≡ Some w → row < length (pairs c)
  row_inside row w here = subst (λ (n : ℕ). row < n) (ap length pair_is ∙ length-map-range_with_len (pair_of_row p) 0 (length (pairs c))) (slice_get_within pair row w here)

  turned : (level : Level) (w : Pair) → at_level level (levels_difference zero_levels (levels_of w)) ≡ pos 0 -ℤ at_level level (levels_of w)
  turned Bulk w = refl
  turned Fine w = refl

  zero_at : (level : Level) → at_level level zero_levels ≡ pos 0
  zero_at Bulk = refl
  zero_at Fine = refl

  summed : (level : Level) (x y : Levels) → at_level level (levels_sum x y) ≡ at_level level x +ℤ at_level level y
  summed Bulk x y = refl
  summed Fine x y = refl

  -- what is too wide in the price of a step is told as a refusal
  pub fault_is : (fault : StepFault) → IsStepFault levels_of c pair base fault → IsWideBy (IsWidePrice c p) (refusal_of_step fault)
  fault_is (Turn row level wide) (w, here, is) =
      let number = row_number level row w here in
      inl (record {
        level = level;
        row = row;
        inside = row_inside row w here;
        wide = (
          ap (wide_at (spot (TurnPrice level) row 0 None)) (operation_is wide Sub (pos 0) (entries_of (row_at p level) row) is.operation (is.first_operand ∙ zero_at level) (is.second_operand ∙ number)),
          λ fits. is.outside (subst (FitsSigned w128) (sym (turned level w ∙ ap (λ (z : ℤ). pos 0 -ℤ z) number)) fits),
        );
      })
  fault_is (Step from to level wide) (is_step, is) =
      let x = pair_at_level level (succ c from) to in
      let y = base_at_level level to in
      inr (record {
        level = level;
        from = from;
        to = to;
        step = is_step;
        wide = (
          ap (wide_at (spot (StepPrice level) from to None)) (operation_is wide Add _ _ is.operation (is.first_operand ∙ x) (is.second_operand ∙ y)),
          λ fits. is.outside (subst (FitsSigned w128) (sym (summed level (pair_levels levels_of c pair (succ c from) to) (base_levels levels_of c base to) ∙ ap₂ (λ (a b : ℤ). a +ℤ b) x y)) fits),
        );
      })
  fault_is Memory is = tt
