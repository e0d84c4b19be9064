-- The price of a step, from the row of its pair and the base price of its end.
use Rattle.std.proofs.Common.{◌≡◌, ℕ, ◌+◌, ◌*◌, ◌/◌, ◌%◌, ◌<◌, ◌≤◌, ◌^◌, Bool, List, [], ◌∷◌, ◌++◌, length, get_or, map, slice_get, Option, Some, None, ℤ, pos, neg_ℤ, ◌-ℤ◌, arith, refl, sym, ap, ap₂, subst, ◌∙◌, length-append, inl, inr}
use Rattle.std.specs.List.{filter, flat_map}
use Rattle.std.proofs.Math.Seq.{get_or-append_seam}
use Rattle.std.proofs.lemmas.Int.{ints}
use Rattle.std.proofs.lemmas.Bool.{cases_Bool, cases_lt}
use Rattle.std.proofs.lemmas.List.{get_or-map, length-map, get_or_append_left}
use Rattle.std.proofs.lemmas.List.FromFn.{length-range_with_len}
use Rattle.std.proofs.lemmas.Option.{get_or_from_slice_get, slice_get_within}
use Rattle.std.proofs.lemmas.Nat.{div-mul-add, mod-mul-add, mul-add-lt}
use Rattle.sc_weight.specs.Levels.{Levels, levels_sum}
use Rattle.sc_weight.specs.Evidence.{at_level}
use Rattle.sc_weight.specs.declared.level.Level.{Level}
use Rattle.sc_weight.specs.declared.level.Level.TheVariants.{Bulk, Fine}
use Rattle.sc_theory.specs.Chains.{Chain, positions, letter, succ}
use Rattle.sc_theory.specs.Words.{inverse_letter}
use Rattle.sc_theory.specs.Walks.{IsStep}
use Rattle.sc_theory.specs.Prices.{pairs, is_pair, all_positions, pair_price}
use Rattle.sc_chain.specs.declared.sign.Sign.{Sign}
use Rattle.sc_chain.specs.declared.sign.Sign.TheVariants.{Plus, Minus}
use Rattle.sc_chain.specs.Pairs.{row_in, row_price}
use Rattle.sc_chain.proofs.PairLaws.{pair_price_is}
use Rattle.sc_tables.specs.Squares.{Square, cell, level_of}
use Rattle.sc_tables.specs.StepPrices.{list_at, pair_levels, base_levels, step_levels, AreForChain, price_in}
use Rattle.sc_tables.specs.inside.StepPrices.{signed_levels, IsCell}
use Rattle.sc_tables.specs.inside.StepFaults.{IsTurn}
use Rattle.sc_tables.specs.StepFaults.{IsStepFault}
use Rattle.sc_tables.specs.declared.prices.StepFault.{StepFault}
use Rattle.sc_tables.specs.declared.prices.StepFault.TheVariants.{Turn, Step, Memory}

-- the first n cells of the square
pub record AreCells {W : Type 0} (levels : W → Levels) (c : Chain) (pair base : List W) (side n : ℕ) (cells : List (Option W)) : Type 0 where
  pub len : length cells ≡ n
  pub at : (k : ℕ) → k < n → IsCell levels c pair base (k % side) (k / side) (get_or cells k None)

-- ---- there are few pairs

filter_short : (test : ℕ → Bool) (xs : List ℕ) → length (filter test xs) ≤ length xs
filter_short test [] = omega arith
filter_short test (x ∷ xs) = elim (cases_Bool (test x)) [ inl e ↦ rw e (omega (arith, filter_short test xs)) | inr e ↦ rw e (omega (arith, filter_short test xs)) ]

flat_short : (f : ℕ → List (ℕ × ℕ)) (m : ℕ) → ((x : ℕ) → length (f x) ≤ m) → (xs : List ℕ) → length (flat_map f xs) ≤ length xs * m
flat_short f m short [] = omega arith
flat_short f m short (x ∷ xs) = omega (arith, length-append (f x) (flat_map f xs), short x, flat_short f m short xs)

few_pairs : (c : Chain) → length (pairs c) ≤ positions c * positions c
few_pairs c =
    let size : length (all_positions c) ≡ positions c = length-range_with_len 0 (positions c) in
    subst (λ (n : ℕ). length (pairs c) ≤ n * positions c) size
    (flat_short (λ p. map (λ q. (p, q)) (filter (is_pair c p) (all_positions c))) (positions c)
    (λ p. omega (arith, length-map {B = ℕ × ℕ} (filter (is_pair c p) (all_positions c)) (λ (q : ℕ). (p, q)), size, filter_short (is_pair c p) (all_positions c))) (all_positions c))

square_below : (n : ℕ) → n ≤ 64 → n * n ≤ 4096
square_below n few = grind arith

-- the number of a pair's row fits 32 bits
pub pairs_fit : (c : Chain) (row : ℕ) → positions c ≤ 64 → row < length (pairs c) → row < 2 ^ 32
pairs_fit c row few inside = omega (arith, few_pairs c, square_below (positions c) few)

-- ---- the price of a pair

negative : (x : ℤ) → neg_ℤ x ≡ pos 0 -ℤ x
negative x = omega (arith, ints)

at_row : {W : Type 0} (f : W → ℤ) (pair : List W) (row : ℕ) (w : W) → slice_get pair row ≡ Some w → get_or (map f pair) row (pos 0) ≡ f w
at_row f pair row w e = get_or-map f pair row w (pos 0) (slice_get_within pair row w e) ∙ ap f (get_or_from_slice_get pair row w w e)

module _ {W : Type 0} (levels : W → Levels) (c : Chain) (pair : List W) (p q : ℕ) (row : ℕ) (w : W) (size : length pair ≡ length (pairs c)) (here : slice_get pair row ≡ Some w) where
  at_a_level : (level : Level) → pair_price c (list_at levels pair [] level) p q ≡ row_price (list_at levels pair [] level) (row_in (pairs c) p q)
  at_a_level level = pair_price_is c (list_at levels pair [] level) p q (length-map pair (λ w. at_level level (levels w)) ∙ size)

  -- the price of two positions is that of their row, or 0 minus it by the sign
  pub pair_is : (sign : Sign) → row_in (pairs c) p q ≡ Some (row, sign) → pair_levels levels c pair p q ≡ signed_levels sign (levels w)
  pair_is Plus at =
      let bulk : pair_price c (list_at levels pair [] Bulk) p q ≡ (levels w).bulk = at_a_level Bulk ∙ ap (row_price (list_at levels pair [] Bulk)) at ∙ at_row (λ v. (levels v).bulk) pair row w here in
      let fine : pair_price c (list_at levels pair [] Fine) p q ≡ (levels w).fine = at_a_level Fine ∙ ap (row_price (list_at levels pair [] Fine)) at ∙ at_row (λ v. (levels v).fine) pair row w here in
      λ i. record { bulk = bulk i; fine = fine i }
  pair_is Minus at =
      let bulk : pair_price c (list_at levels pair [] Bulk) p q ≡ pos 0 -ℤ (levels w).bulk = at_a_level Bulk ∙ ap (row_price (list_at levels pair [] Bulk)) at ∙ ap neg_ℤ (at_row (λ v. (levels v).bulk) pair row w here) ∙ negative _ in
      let fine : pair_price c (list_at levels pair [] Fine) p q ≡ pos 0 -ℤ (levels w).fine = at_a_level Fine ∙ ap (row_price (list_at levels pair [] Fine)) at ∙ ap neg_ℤ (at_row (λ v. (levels v).fine) pair row w here) ∙ negative _ in
      λ i. record { bulk = bulk i; fine = fine i }

-- the row of the next position and the end of a step
pub row_at : (c : Chain) (ps : List (ℕ × ℕ)) (i j s row : ℕ) (sign : Sign) → ps ≡ pairs c → s ≡ succ c i → Some (row, sign) ≡ row_in ps s j → row_in (pairs c) (succ c i) j ≡ Some (row, sign)
row_at c ps i j s row sign ep es e = ap₂ (λ (qs : List (ℕ × ℕ)) (r : ℕ). row_in qs r j) (sym ep) (sym es) ∙ sym e

-- a position whose letter is the inverse of the one after i is the end of a step from i
pub step_at : (c : Chain) (i j s : ℕ) → i < positions c → j < positions c → s ≡ succ c i → letter c j ≡ inverse_letter (letter c s) → IsStep c i j
step_at c i j s from to e inverse = record { from = from; to = to; inverse = inverse ∙ ap (λ (r : ℕ). inverse_letter (letter c r)) e }

-- the price of a step is the sum of the two
pub step_is : {W : Type 0} (levels : W → Levels) (c : Chain) (pair base : List W) (i j : ℕ) (y z sum : Levels) → y ≡ pair_levels levels c pair (succ c i) j → z ≡ base_levels levels c base j → sum ≡ levels_sum y z → sum ≡ step_levels levels c pair base i j
step_is levels c pair base i j y z sum ey ez e = e ∙ ap₂ levels_sum ey ez

-- where 0 minus the price of a row is too wide, the steps have no prices
pub turn_is : {W : Type 0} (levels : W → Levels) (c : Chain) (pair base : List W) (row : ℕ) (w : W) (fault : StepFault) → slice_get pair row ≡ Some w → IsTurn (levels w) row fault → IsStepFault levels c pair base fault
turn_is levels c pair base row w (Turn k level wide) here is = (w, ap (slice_get pair) is.0 ∙ here, is.1)
turn_is levels c pair base row w (Step from to level wide) here is = absurd is
turn_is levels c pair base row w Memory here is = absurd is

-- ---- the square

-- one cell more
pub next_cell : {W : Type 0} (levels : W → Levels) (c : Chain) (pair base : List W) (side n : ℕ) (cells : List (Option W)) (o : Option W) → AreCells levels c pair base side n cells → IsCell levels c pair base (n % side) (n / side) o → AreCells levels c pair base side (n + 1) (cells ++ o ∷ [])
next_cell levels c pair base side n cells o are is =
    record {
      len = omega (arith, are.len, length-append cells (o ∷ []));
      at = λ k within. elim (cases_lt k n) [
        | inl before ↦ rw (get_or_append_left cells (o ∷ []) None k (omega (arith, are.len))) (are.at k before)
        | inr last ↦
            (let at : n ≡ k = omega arith in
            let end : n ≡ length cells = omega (arith, are.len) in
            let same : get_or (cells ++ o ∷ []) n None ≡ o = ap (λ (m : ℕ). get_or (cells ++ o ∷ []) m None) end ∙ get_or-append_seam cells o [] None in
            subst (λ (m : ℕ). IsCell levels c pair base (m % side) (m / side) (get_or (cells ++ o ∷ []) m None)) at
            (subst (IsCell levels c pair base (n % side) (n / side)) (sym same) is))
      ];
    }

module _ {W : Type 0} (levels : W → Levels) (c : Chain) (pair base : List W) (t : Square W) (side : t.side ≡ positions c) (are : AreCells levels c pair base t.side (t.side * t.side) t.cells) where
  -- the cell of i and j has the price of the step where there is one
  pub cell_is : (i j : ℕ) → i < positions c → j < positions c → IsCell levels c pair base i j (cell t j i)
  cell_is i j from to =
      let low : i < t.side = omega (arith, side) in
      let high : j < t.side = omega (arith, side) in
      subst (λ (n : ℕ). IsCell levels c pair base n j (cell t j i)) (mod-mul-add j t.side i low)
      (subst (λ (n : ℕ). IsCell levels c pair base ((j * t.side + i) % t.side) n (cell t j i)) (div-mul-add j t.side i low)
      (are.at (j * t.side + i) (mul-add-lt j t.side i t.side high low)))

  on_step : (i j : ℕ) (o : Option W) → IsStep c i j → IsCell levels c pair base i j o → (w : W) × (o ≡ Some w)
  on_step i j None step is = absurd (is step)
  on_step i j (Some w) step is = (w, refl)

  off_step : (i j : ℕ) (o : Option W) (w : W) → o ≡ Some w → IsCell levels c pair base i j o → IsStep c i j
  off_step i j o w e is = (subst (IsCell levels c pair base i j) e is).0

  -- the square has the chain's size, and an entry exactly where there is a step
  pub for_chain : AreForChain c t
  for_chain =
      record {
        side = side;
        step = λ i j step. on_step i j (cell t j i) step (cell_is i j step.from step.to);
        only = λ i j w from to e. off_step i j (cell t j i) w e (cell_is i j from to);
      }

  price_of : (i j : ℕ) (o : Option W) → IsStep c i j → cell t j i ≡ o → IsCell levels c pair base i j o → price_in levels t i j ≡ step_levels levels c pair base i j
  price_of i j None step e is = absurd (is step)
  price_of i j (Some w) step e is = ap (level_of levels) e ∙ is.1

  -- the price of a step in the square is its exact price
  pub prices_are : (i j : ℕ) → IsStep c i j → price_in levels t i j ≡ step_levels levels c pair base i j
  prices_are i j step = price_of i j (cell t j i) step refl (cell_is i j step.from step.to)
