use Rattle.sc_tables.proofs.ReadingBack.{IsReadTo}
use Rattle.sc_tables.proofs.trails.read_back.Given as goal

abbrev pub invariant-loop-here : goal.invariant-loop-here
invariant-loop-here g l = IsReadTo g.W.Weight.levels l.nodes l.node l.here l.walk.items

abbrev pub decreases-loop-here : goal.decreases-loop-here
decreases-loop-here g l = l.here
