use Rattle.std.proofs.Common.{◌-◌, length}
use Rattle.sc_theory.specs.Fatgraphs.{turn}
use Rattle.sc_svg.proofs.LayingOut.{LaysTo}
use Rattle.sc_svg.proofs.layout.lay_vertex.Given as goal

abbrev pub invariant-loop-next : goal.invariant-loop-next
invariant-loop-next l = LaysTo (turn l.sides) (length l.sides) l.start l.fn.order.items l.fn.xs l.side l.order.items l.xs

abbrev pub decreases-loop-next : goal.decreases-loop-next
decreases-loop-next l = length l.sides - length l.order.items
