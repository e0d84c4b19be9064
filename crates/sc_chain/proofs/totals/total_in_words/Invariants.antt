use Rattle.sc_chain.proofs.Balanced.{IsTotalSoFar}
use Rattle.sc_chain.proofs.totals.total_in_words.Given as goal

abbrev pub invariant-loop-entry : goal.invariant-loop-entry
invariant-loop-entry l = IsTotalSoFar l.words l.generator l.entry-index l.total
