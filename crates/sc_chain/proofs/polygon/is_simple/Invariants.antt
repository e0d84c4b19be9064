use Rattle.sc_chain.proofs.Marks.{AreMarks}
use Rattle.sc_chain.proofs.polygon.is_simple.Given as goal

abbrev pub invariant-loop-position : goal.invariant-loop-position
invariant-loop-position l = AreMarks l.walk l.position-index l.seen
