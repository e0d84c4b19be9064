use Rattle.sc_chain.specs.Faults.{AreGoodBelow}
use Rattle.sc_chain.proofs.faults.word_fault.Given as goal

abbrev pub invariant-loop-number : goal.invariant-loop-number
invariant-loop-number l = AreGoodBelow l.words l.number
