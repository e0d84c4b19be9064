-- The prices of a chain's steps.
use Rattle.std.specs.Prelude.{◌≡◌, ℕ, ◌<◌, List, [], map, Some, pos}
use Rattle.sc_weight.specs.Levels.{Levels}
use Rattle.sc_weight.specs.Evidence.{at_level}
use Rattle.sc_weight.specs.declared.level.Level.{Level}
use Rattle.sc_weight.specs.declared.level.Level.TheVariants.{Bulk, Fine}
use Rattle.sc_theory.specs.Chains.{Chain, positions}
use Rattle.sc_theory.specs.Walks.{IsStep}
use Rattle.sc_theory.specs.Prices.{Prices, pair_price, base_price, price}
use Rattle.sc_tables.specs.Squares.{Square, cell, level_of}

-- the numbers of two-level pair and base prices at a level, as a price list (a scale plays no part in the price of a
-- step)
abbrev pub list_at : {W : Type 0} → (W → Levels) → List W → List W → Level → Prices
list_at levels pair base level =
    record { scale = pos 1; base = map (λ w. at_level level (levels w)) base; pair = map (λ w. at_level level (levels w)) pair }

-- the price y(p, q) of two positions, and the base price at a position
abbrev pub pair_levels : {W : Type 0} → (W → Levels) → Chain → List W → ℕ → ℕ → Levels
pair_levels levels c pair p q =
    record { bulk = pair_price c (list_at levels pair [] Bulk) p q; fine = pair_price c (list_at levels pair [] Fine) p q }

abbrev pub base_levels : {W : Type 0} → (W → Levels) → Chain → List W → ℕ → Levels
base_levels levels c base j =
    record { bulk = base_price c (list_at levels [] base Bulk) j; fine = base_price c (list_at levels [] base Fine) j }

-- the price of the step from i to j, level by level: y(next position of i, j) plus the base price at j
abbrev pub step_levels : {W : Type 0} → (W → Levels) → Chain → List W → List W → ℕ → ℕ → Levels
step_levels levels c pair base i j =
    record { bulk = price c (list_at levels pair base Bulk) i j; fine = price c (list_at levels pair base Fine) i j }

-- the square has the size of the chain, and an entry exactly where there is a step
pub record AreForChain {W : Type 0} (c : Chain) (t : Square W) : Type 0 where
  pub side : t.side ≡ positions c
  pub step : (i j : ℕ) → IsStep c i j → (w : W) × (cell t j i ≡ Some w)
  pub only : (i j : ℕ) (w : W) → i < positions c → j < positions c → cell t j i ≡ Some w → IsStep c i j

-- the price of a step in the square, in which the steps into a position stand side by side
abbrev pub price_in : {W : Type 0} → (W → Levels) → Square W → ℕ → ℕ → Levels
price_in levels t i j = level_of levels (cell t j i)

-- the place is within the square, and there is an entry
pub record HasStep {W : Type 0} (t : Square W) (i j : ℕ) : Type 0 where
  pub from : i < t.side
  pub to : j < t.side
  pub entry : (w : W) × (cell t j i ≡ Some w)
