use Rattle.std.proofs.Common.{◌≡◌, length}
use Rattle.measure_rows.proofs.drawn.Given as goal

abbrev pub invariant-loop-row : goal.invariant-loop-row
invariant-loop-row l = record { size : length l.along.items ≡ l._row }
