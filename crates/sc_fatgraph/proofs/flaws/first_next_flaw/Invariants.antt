use Rattle.sc_fatgraph.proofs.NextMarks.{NextsBelow}
use Rattle.sc_fatgraph.proofs.flaws.first_next_flaw.Given as goal

abbrev pub invariant-loop-s : goal.invariant-loop-s
invariant-loop-s l = NextsBelow l.sides l.marks l.s
