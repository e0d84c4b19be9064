use Rattle.sc_gluing.specs.inside.Matching.{AreLinked}
use Rattle.sc_gluing.proofs.matching.link.Given as goal

abbrev pub invariant-loop-here : goal.invariant-loop-here
invariant-loop-here l = AreLinked l.kinds l.here l.firsts l.following
