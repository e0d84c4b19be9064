use Rattle.sc_fan.proofs.ReaderLaws.{AreEdgesTo}
use Rattle.sc_fan.proofs.reading.read_edges.Given as goal

abbrev pub invariant-loop-number : goal.invariant-loop-number
invariant-loop-number l = AreEdgesTo l.words l.upper l.lower l.corners l.count l.initial.lines l.edges.items l.lines l.number
