-- The causes for which the steps of a chain have no prices.
use Rattle.std.specs.Prelude.{◌≡◌, List, slice_get, Some}
use Rattle.sc_weight.specs.Levels.{Levels, zero_levels, levels_sum, levels_difference}
use Rattle.sc_weight.specs.Evidence.{IsFirstWideLevel}
use Rattle.sc_whole.specs.declared.checked.Op.TheVariants.{Add, Sub}
use Rattle.sc_theory.specs.Chains.{Chain, succ}
use Rattle.sc_theory.specs.Walks.{IsStep}
use Rattle.sc_tables.specs.StepPrices.{pair_levels, base_levels}
use Rattle.sc_tables.specs.declared.prices.StepFault.{StepFault}
use Rattle.sc_tables.specs.declared.prices.StepFault.TheVariants.{Turn, Step, Memory}

-- 0 minus the price of a row is too wide; or at a step the price of the pair plus the base price is; or memory ran out
abbrev pub IsStepFault : {W : Type 0} → (W → Levels) → Chain → List W → List W → StepFault → Type 0
IsStepFault {W} levels c pair base (Turn row level wide) =
    (w : W) × (slice_get pair row ≡ Some w) × IsFirstWideLevel Sub (levels_difference zero_levels (levels w)) zero_levels (levels w) (record { level = level; wide = wide })
IsStepFault levels c pair base (Step from to level wide) =
    IsStep c from to
    × IsFirstWideLevel Add (levels_sum (pair_levels levels c pair (succ c from) to) (base_levels levels c base to)) (pair_levels levels c pair (succ c from) to) (base_levels levels c base to) (record { level = level; wide = wide })
IsStepFault levels c pair base Memory = Unit {0}
