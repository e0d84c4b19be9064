-- What the operations of one pivot show that don't fit, in the terms of the rows and prices at hand.
use Rattle.std.specs.Prelude.{◌≡◌, ℕ, ◌<◌, Bool, true, false, List, length, Option, None, is_some, ℤ}
use Rattle.std.specs.Option.{option_map}
use Rattle.std.specs.Vec.{vec_items}
use Rattle.sc_basis.specs.Bases.{Column as Entries}
use Rattle.sc_basis.specs.Standing.{BasisNumbers}
use Rattle.sc_basis.specs.Evidence.{Place, Operands, needs_entering, needs_leaving, column_or_none, row_or_first}
use Rattle.sc_rows.specs.Lines.{Line}
use Rattle.sc_rows.specs.Evidence.{IsWideValue}
use Rattle.sc_rows.specs.declared.fault.Place.{Place as Named}
use Rattle.sc_rows.specs.declared.fault.Place.TheVariants.{ValueMul, ValueAdd}
use Rattle.sc_rows.specs.declared.fault.WideAt.{WideAt}
use Rattle.sc_simplex.specs.Oracles.{ColumnsBy}
use Rattle.sc_simplex.specs.WideOperations.{TellsPlace, IsEnteringTold}

-- in the product of some row with b
abbrev pub IsWideSomeValue : List Line → (ℕ → ℤ) → WideAt → Type 0
IsWideSomeValue rows b w = (i : ℕ) × (i < length rows) × IsWideValue rows i b w

-- the place that is told has these operands for the numbers of a basis, where the column c enters
pub record IsWideFor (r : ℕ) (b : ℕ → ℤ) (t : BasisNumbers) (c : Entries) (w : WideAt) : Type 0 where
  pub place : Place
  pub tells : TellsPlace place w
  pub untold : w.entering ≡ None
  pub leaving_told : is_some w.leaving ≡ needs_leaving place
  pub operands : Operands r b t c (row_or_first w.leaving) place w.wide.x w.wide.y

-- whether a place speaks of an entering column
abbrev pub speaks_of_column : Named → Bool
speaks_of_column ValueMul = false
speaks_of_column ValueAdd = false
speaks_of_column place = true

-- the same with the key of the entering column told, where the place needs one
pub record IsWideTold (C : ColumnsBy) (r : ℕ) (b : ℕ → ℤ) (t : BasisNumbers) (w : WideAt) : Type 0 where
  pub place : Place
  pub tells : TellsPlace place w
  pub entering : Option Entries
  pub told : IsEnteringTold C (option_map vec_items w.entering) entering
  pub entering_told : is_some entering ≡ needs_entering place
  pub leaving_told : is_some w.leaving ≡ needs_leaving place
  pub operands : Operands r b t (column_or_none entering) (row_or_first w.leaving) place w.wide.x w.wide.y
