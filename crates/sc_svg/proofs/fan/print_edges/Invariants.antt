use Rattle.std.proofs.Common.{◌≡◌, ◌<◌, ◌++◌, true, drop}
use Rattle.sc_svg.specs.Fans.{has_point, edges_from, edges_of}
use Rattle.sc_svg.proofs.fan.print_edges.Given as goal

abbrev pub invariant-loop-to : goal.invariant-loop-to
invariant-loop-to l =
    (l.out.items ++ edges_from l.greatest l.from (drop l.to-index l.rest) ≡ l.fn.out.items ++ edges_of l.greatest l.corners) × (has_point l.from ≡ true → 0 < l.greatest.over)
