use Rattle.std.proofs.Common.{◌≡◌, length}
use Rattle.sc_algebra.specs.Sums.{count_below}
use Rattle.sc_algebra.specs.Permutations.{is_least_for}
use Rattle.sc_theory.specs.Fatgraphs.{turn}
use Rattle.sc_svg.specs.inside.LaidOut.{AreLaidBelow}
use Rattle.sc_svg.proofs.layout.lay_vertices.Given as goal

abbrev pub invariant-loop-start : goal.invariant-loop-start
invariant-loop-start l = AreLaidBelow (turn l.sides) (length l.sides) l.start l.order.items l.xs l.lasts × (l.vertices ≡ count_below (is_least_for (turn l.sides) (length l.sides)) l.start)
