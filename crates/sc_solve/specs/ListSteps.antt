-- The prices of a list as weights of one level.
use Rattle.std.specs.Prelude.{◌≡◌, ℕ, ℤ, pos}
use Rattle.sc_weight.specs.Levels.{Levels}
use Rattle.sc_weight.specs.declared.plain.Plain.{Plain}
use Rattle.sc_theory.specs.Chains.{Chain}
use Rattle.sc_theory.specs.Walks.{IsStep}
use Rattle.sc_theory.specs.Prices.{Prices, price}
use Rattle.sc_tables.specs.Squares.{Square}
use Rattle.sc_tables.specs.StepPrices.{AreForChain, price_in}

-- a number as a weight, and a weight's number
abbrev pub plain : ℤ → Plain
plain z = record { 0 = z }

abbrev pub number : Plain → ℤ
number w = w.0

-- the two whole numbers of a weight of one level
abbrev pub one_level : ℤ → Levels
one_level z = record { bulk = pos 0; fine = z }

abbrev pub plain_levels : Plain → Levels
plain_levels w = one_level (number w)

-- the square has the price by the list for each step of the chain
pub record AreListSteps (c : Chain) (list : Prices) (t : Square Plain) : Type 0 where
  pub steps : AreForChain c t
  pub same : (i j : ℕ) → IsStep c i j → price_in plain_levels t i j ≡ one_level (price c list i j)
