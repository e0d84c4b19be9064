use Rattle.sc_chain.proofs.WordLists.{AreFew}
use Rattle.sc_chain.proofs.tests.words_of.Given as goal

abbrev pub invariant-loop-weight : goal.invariant-loop-weight
invariant-loop-weight l =
    (goal.iterator-loop-weight).can_next l.weight-iterator ×
    (goal.iterator-loop-weight).is_finite l.weight-iterator ×
    AreFew l.words.items
