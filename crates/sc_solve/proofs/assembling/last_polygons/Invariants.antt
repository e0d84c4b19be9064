use Rattle.std.proofs.Common.{◌≡◌, None, replicate, take}
use Rattle.sc_solve.specs.Solutions.{exchanged}
use Rattle.sc_solve.proofs.assembling.last_polygons.Given as goal

abbrev pub invariant-loop-pivot : goal.invariant-loop-pivot
invariant-loop-pivot l = l.items.items ≡ exchanged (replicate l.fn.rows None) (take l.pivot-index l.journal)
