use Rattle.std.proofs.Common.{◌≡◌, drop}
use Rattle.sc_chain.specs.Polygons.{walks_back, is_closed_walk}
use Rattle.sc_chain.proofs.polygon.is_closed.Given as goal

abbrev pub invariant-loop-next : goal.invariant-loop-next
invariant-loop-next l = is_closed_walk l.chain l.walk ≡ walks_back l.chain l.first l.here (drop l.next-index l.rest)
