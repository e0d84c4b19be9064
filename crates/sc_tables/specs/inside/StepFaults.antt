-- Said by private functions alone: the causes for which the steps of a chain have no prices.
use Rattle.std.specs.Prelude.{◌≡◌, ℕ}
use Rattle.sc_weight.specs.Levels.{Levels, zero_levels, levels_difference}
use Rattle.sc_weight.specs.Evidence.{IsFirstWideLevel}
use Rattle.sc_whole.specs.declared.checked.Op.TheVariants.{Sub}
use Rattle.sc_tables.specs.declared.prices.StepFault.{StepFault}
use Rattle.sc_tables.specs.declared.prices.StepFault.TheVariants.{Turn, Step, Memory}

-- 0 minus this price, which is that of the row, is too wide
abbrev pub IsTurn : Levels → ℕ → StepFault → Type 0
IsTurn price row (Turn k level wide) = (k ≡ row) × IsFirstWideLevel Sub (levels_difference zero_levels price) zero_levels price (record { level = level; wide = wide })
IsTurn price row (Step from to level wide) = ⊥
IsTurn price row Memory = ⊥
