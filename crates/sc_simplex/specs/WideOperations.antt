-- An operation of the pivot after a journal whose exact result is outside 128 bits, as a refusal tells it.
use Rattle.std.specs.Prelude.{◌≡◌, ℕ, ◌<◌, true, List, Option, Some, None, ℤ, FitsSigned}
use Rattle.std.specs.Int.{w128}
use Rattle.std.specs.Option.{option_map}
use Rattle.std.specs.Vec.{vec_items}
use Rattle.sc_weight.specs.declared.level.Level.{Level}
use Rattle.sc_weight.specs.declared.level.Level.TheVariants.{Bulk, Fine}
use Rattle.sc_whole.specs.declared.checked.Op.{Op}
use Rattle.sc_whole.specs.declared.checked.Op.TheVariants.{Add, Sub, Mul}
use Rattle.sc_basis.specs.Bases.{Column as Entries}
use Rattle.sc_basis.specs.Journals.{Journal}
use Rattle.sc_basis.specs.Evidence.{PriceLevel, bulk_level, fine_level, Place, along_product, along_sum, value_product, value_sum, row_left, row_right, row_difference, row_scale, gap_product, gap_sum, gap_difference, price_left, price_right, price_sum, price_scale, IsEvidence, result_at, needs_entering}
use Rattle.sc_rows.specs.declared.fault.Place.{Place as Named}
use Rattle.sc_rows.specs.declared.fault.Place.TheVariants.{AlongMul, AlongAdd, ValueMul, ValueAdd, RowLeft, RowRight, RowMinus, RowScale, GapMul, GapAdd, GapMinus, PriceLeft, PriceRight, PriceAdd, PriceScale}
use Rattle.sc_rows.specs.declared.fault.WideAt.{WideAt}
use Rattle.sc_simplex.specs.Oracles.{ColumnsBy}

-- ---- how a refusal tells a place
abbrev pub level_of : PriceLevel → Level
level_of bulk_level = Bulk
level_of fine_level = Fine

abbrev pub name_of : Place → Named
name_of (along_product i k) = AlongMul
name_of (along_sum i k) = AlongAdd
name_of (value_product i k) = ValueMul
name_of (value_sum i k) = ValueAdd
name_of (row_left i k) = RowLeft
name_of (row_right i k) = RowRight
name_of (row_difference i k) = RowMinus
name_of (row_scale i) = RowScale
name_of (gap_product level k) = GapMul (level_of level)
name_of (gap_sum level k) = GapAdd (level_of level)
name_of (gap_difference level) = GapMinus (level_of level)
name_of (price_left level k) = PriceLeft (level_of level)
name_of (price_right level k) = PriceRight (level_of level)
name_of (price_sum level k) = PriceAdd (level_of level)
name_of (price_scale level) = PriceScale (level_of level)

-- its indices in their order, and 0 where it has fewer
abbrev pub indices_of : Place → ℕ × ℕ
indices_of (along_product i k) = (i, k)
indices_of (along_sum i k) = (i, k)
indices_of (value_product i k) = (i, k)
indices_of (value_sum i k) = (i, k)
indices_of (row_left i k) = (i, k)
indices_of (row_right i k) = (i, k)
indices_of (row_difference i k) = (i, k)
indices_of (row_scale i) = (i, 0)
indices_of (gap_product level k) = (k, 0)
indices_of (gap_sum level k) = (k, 0)
indices_of (gap_difference level) = (0, 0)
indices_of (price_left level k) = (k, 0)
indices_of (price_right level k) = (k, 0)
indices_of (price_sum level k) = (k, 0)
indices_of (price_scale level) = (0, 0)

abbrev pub op_of : Place → Op
op_of (along_product i k) = Mul
op_of (along_sum i k) = Add
op_of (value_product i k) = Mul
op_of (value_sum i k) = Add
op_of (row_left i k) = Mul
op_of (row_right i k) = Mul
op_of (row_difference i k) = Sub
op_of (row_scale i) = Mul
op_of (gap_product level k) = Mul
op_of (gap_sum level k) = Add
op_of (gap_difference level) = Sub
op_of (price_left level k) = Mul
op_of (price_right level k) = Mul
op_of (price_sum level k) = Add
op_of (price_scale level) = Mul

-- the refusal tells this place and its operation, no walk, and an exact result that is outside 128 bits
pub record TellsPlace (place : Place) (at : WideAt) : Type 0 where
  pub name : at.place ≡ name_of place
  pub indices : (at.first, at.second) ≡ indices_of place
  pub op : at.wide.op ≡ op_of place
  pub wide : ¬ FitsSigned w128 (result_at place at.wide.x at.wide.y)
  pub walk : at.walk ≡ None

-- the key of the entering column is told, exactly where there is one
abbrev pub IsEnteringTold : ColumnsBy → Option (List ℕ) → Option Entries → Type 0
IsEnteringTold C None None = Unit {0}
IsEnteringTold C None (Some c) = ⊥
IsEnteringTold C (Some key) None = ⊥
IsEnteringTold C (Some key) (Some c) = C key c

-- after the journal the operation at this place has these operands. Where a column enters, there was still budget left
-- for its pivot
pub record IsWideOperation (C : ColumnsBy) (r : ℕ) (b : ℕ → ℤ) (budget used : ℕ) (ps : Journal) (at : WideAt) : Type 0 where
  pub place : Place
  pub tells : TellsPlace place at
  pub entering : Option Entries
  pub told : IsEnteringTold C (option_map vec_items at.entering) entering
  pub evidence : IsEvidence r b ps place entering at.leaving at.wide.x at.wide.y
  pub left : needs_entering place ≡ true → used < budget
