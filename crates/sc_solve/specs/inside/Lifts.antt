-- Said by private functions alone: the lift: the prices of a basis at two levels as one price list.
use Rattle.std.specs.Prelude.{◌≡◌, ◌⊎◌, ℕ, ℤ, pos, unsigned_abs}
use Rattle.sc_theory.specs.Chains.{Chain}
use Rattle.sc_theory.specs.Walks.{IsStep}
use Rattle.sc_weight.specs.declared.pair.Pair.{Pair}
use Rattle.sc_tables.specs.Squares.{Square}
use Rattle.sc_tables.specs.StepPrices.{price_in}
use Rattle.sc_solve.specs.inside.PriceLevels.{levels_of}

-- the fine prices of steps in a square
abbrev pub fine_in : Square Pair → ℕ → ℕ → ℤ
fine_in t i j = (price_in levels_of t i j).fine

-- the size of the price where there is a step, and else 0
pub record IsSizeOfStep (c : Chain) (price : ℕ → ℕ → ℤ) (from to : ℕ) (size : ℤ) : Type 0 where
  pub on : IsStep c from to → size ≡ pos (unsigned_abs (price from to))
  pub off : ¬ IsStep c from to → size ≡ pos 0
  pub decided : IsStep c from to ⊎ (¬ IsStep c from to)
