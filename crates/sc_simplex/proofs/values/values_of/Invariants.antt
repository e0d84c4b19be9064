use Rattle.std.proofs.Common.{◌≡◌, ℕ, length, slice_get, Some}
use Rattle.sc_basis.specs.Products.{at, dot}
use Rattle.sc_fraction.specs.declared.frac.Frac.{Frac}
use Rattle.sc_fraction.specs.Frac.{IsQuotient}
use Rattle.sc_rows.specs.Lines.{row_of, den_of}
use Rattle.sc_simplex.proofs.values.values_of.Given as goal

abbrev pub invariant-loop-row : goal.invariant-loop-row
invariant-loop-row l =
    (length l.values.items ≡ l.row)
    × ((i : ℕ) (f : Frac) → slice_get l.values.items i ≡ Some f → IsQuotient (dot (length l.rows) (row_of l.rows i) (at l.rhs.items)) (den_of l.rows i) f)
