use Rattle.std.proofs.Common.{◌≡◌, map}
use Rattle.sc_shape.specs.inside.SideLists.{with_boundaries}
use Rattle.sc_shape.proofs.shape.add_boundaries.Given as goal

abbrev pub invariant-loop-side : goal.invariant-loop-side
invariant-loop-side l = l.found.items ≡ map (with_boundaries l.chain l.sides l.components l.boundaries l.lengths l.side) l.fn.found.items
