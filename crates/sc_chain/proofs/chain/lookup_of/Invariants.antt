use Rattle.sc_chain.proofs.Entries.{IsLookupBelow}
use Rattle.sc_chain.proofs.chain.lookup_of.Given as goal

abbrev pub invariant-loop-number : goal.invariant-loop-number
invariant-loop-number l = IsLookupBelow l.words l.number l.places.items l.firsts.items
