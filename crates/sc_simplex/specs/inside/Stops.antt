-- The answers of the solver by the state in which it ends.
use Rattle.std.specs.Prelude.{◌≡◌, ℕ, List, length, slice_get, Some, ℤ}
use Rattle.sc_basis.specs.Products.{dot}
use Rattle.sc_fraction.specs.declared.frac.Frac.{Frac}
use Rattle.sc_fraction.specs.Frac.{IsQuotient}
use Rattle.sc_rows.specs.Lines.{row_of, den_of}
use Rattle.sc_rows.specs.declared.fault.RowFault.{RowFault}
use Rattle.sc_rows.specs.declared.fault.RowFault.TheVariants.{Wide as RowWide, Memory as RowMemory}
use Rattle.sc_simplex.specs.declared.column.KeyPivot.{KeyPivot}
use Rattle.sc_simplex.specs.declared.oracle.OracleFault.{OracleFault}
use Rattle.sc_simplex.specs.declared.oracle.OracleFault.TheVariants.{Wide as OracleWide, Memory as OracleMemory}
use Rattle.sc_simplex.specs.declared.solving.Optimum.{Optimum}
use Rattle.sc_simplex.specs.declared.solving.SimplexFault.{SimplexFault}
use Rattle.sc_simplex.specs.declared.solving.SimplexFault.TheVariants.{Budget, Wide, Memory}
use Rattle.sc_simplex.specs.declared.state.State.{State}

-- the fault tells these pivots and this refusal
abbrev pub IsStopBy : SimplexFault → List KeyPivot → RowFault → Type 0
IsStopBy (Budget js c) ks f = ⊥
IsStopBy (Wide js at) ks (RowWide w) = (js.items ≡ ks) × (at ≡ w)
IsStopBy (Wide js at) ks RowMemory = ⊥
IsStopBy Memory ks (RowWide w) = ⊥
IsStopBy Memory ks RowMemory = Unit {0}

abbrev pub IsStopByOracle : SimplexFault → List KeyPivot → OracleFault → Type 0
IsStopByOracle (Budget js c) ks f = ⊥
IsStopByOracle (Wide js at) ks (OracleWide w) = (js.items ≡ ks) × (at ≡ w)
IsStopByOracle (Wide js at) ks OracleMemory = ⊥
IsStopByOracle Memory ks (OracleWide w) = ⊥
IsStopByOracle Memory ks OracleMemory = Unit {0}

-- the state, with the values of its items
pub record IsMadeOf (s : State) (b : ℕ → ℤ) (o : Optimum) : Type 0 where
  pub basis : o.basis ≡ s.basis
  pub prices : o.prices ≡ s.prices
  pub columns : o.columns ≡ s.columns
  pub journal : o.journal ≡ s.journal
  pub size : length o.values.items ≡ length s.rows
  pub values : (i : ℕ) (f : Frac) → slice_get o.values.items i ≡ Some f → IsQuotient (dot (length s.rows) (row_of s.rows i) b) (den_of s.rows i) f
