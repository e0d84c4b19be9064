use Rattle.sc_fatgraph.proofs.MarkedOrbits.{CountsBelow}
use Rattle.sc_fatgraph.proofs.orbits.count_vertices.Given as goal

abbrev pub invariant-loop-start : goal.invariant-loop-start
invariant-loop-start l = CountsBelow l.sides l.marks l.start l.vertices
