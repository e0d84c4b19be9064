use Rattle.std.proofs.Common.{◌≡◌, length}
use Rattle.measure_rows.specs.declared.TheConstants.{ROWS}
use Rattle.measure_rows.proofs.pivot_often.Given as goal

abbrev pub invariant-loop-pivot : goal.invariant-loop-pivot
invariant-loop-pivot l = record { size : length l.rows ≡ ROWS }
