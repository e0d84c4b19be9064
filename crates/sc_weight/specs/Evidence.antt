-- The evidence that a level of an exact result is no number of 128 bits.
use Rattle.std.specs.Prelude.{◌≡◌, ℤ, FitsSigned}
use Rattle.std.specs.Int.{w128}
use Rattle.sc_whole.specs.declared.checked.Op.{Op}
use Rattle.sc_weight.specs.declared.level.Level.{Level}
use Rattle.sc_weight.specs.declared.level.Level.TheVariants.{Bulk, Fine}
use Rattle.sc_weight.specs.declared.level.WideLevel.{WideLevel}
use Rattle.sc_weight.specs.Levels.{Levels}

-- the number at a level
abbrev pub at_level : Level → Levels → ℤ
at_level Bulk l = l.bulk
at_level Fine l = l.fine

-- w names the first level, bulk before fine, at which the exact result of an operation on x and y is outside 128 bits,
-- with the operands at that level
pub record IsFirstWideLevel (op : Op) (exact x y : Levels) (w : WideLevel) : Type 0 where
  pub outside : ¬ FitsSigned w128 (at_level w.level exact)
  pub first : w.level ≡ Fine → FitsSigned w128 exact.bulk
  pub operation : w.wide.op ≡ op
  pub first_operand : w.wide.x ≡ at_level w.level x
  pub second_operand : w.wide.y ≡ at_level w.level y
