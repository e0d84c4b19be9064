use Rattle.std.proofs.Common.{◌≡◌, None, replicate}
use Rattle.sc_solve.proofs.assembling.no_polygons.Given as goal

abbrev pub invariant-loop-row : goal.invariant-loop-row
invariant-loop-row l = l.items.items ≡ replicate l._row None
