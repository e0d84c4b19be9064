use Rattle.std.proofs.Common.{◌≡◌}
use Rattle.sc_theory.specs.Columns.{column}
use Rattle.sc_solve.specs.PolygonColumns.{entries_by}
use Rattle.sc_solve.proofs.columns.entries_of_walk.Given as goal

abbrev pub invariant-loop-row : goal.invariant-loop-row
invariant-loop-row l = l.entries.items ≡ entries_by (column l.chain l.walk) l.row
