use Rattle.sc_chain.specs.inside.Lookup.{AppendsBelow}
use Rattle.sc_chain.proofs.chain.append_word.Given as goal

abbrev pub invariant-loop-place : goal.invariant-loop-place
invariant-loop-place l = AppendsBelow l.initial.places.items l.places.items l.word l.number l.place
