-- Said by private functions alone: the prices of a chain's steps.
use Rattle.std.specs.Prelude.{◌≡◌, ℕ, List, Option, Some, None}
use Rattle.sc_weight.specs.Levels.{Levels, zero_levels, levels_difference}
use Rattle.sc_chain.specs.declared.sign.Sign.{Sign}
use Rattle.sc_chain.specs.declared.sign.Sign.TheVariants.{Plus, Minus}
use Rattle.sc_theory.specs.Chains.{Chain}
use Rattle.sc_theory.specs.Walks.{IsStep}
use Rattle.sc_theory.specs.Prices.{price}
use Rattle.sc_tables.specs.StepPrices.{step_levels}

-- the price of a row, or 0 minus it
abbrev pub signed_levels : Sign → Levels → Levels
signed_levels Plus price = price
signed_levels Minus price = levels_difference zero_levels price

-- the entry of the step from i to j, and none where there is no step
abbrev pub IsCell : {W : Type 0} → (W → Levels) → Chain → List W → List W → ℕ → ℕ → Option W → Type 0
IsCell levels c pair base i j None = ¬ IsStep c i j
IsCell levels c pair base i j (Some w) = IsStep c i j × (levels w ≡ step_levels levels c pair base i j)
