use Rattle.sc_chain.proofs.WordLists.{AreFew}
use Rattle.sc_tables_tests.proofs.tables.words_of.Given as goal

abbrev pub invariant-loop-part : goal.invariant-loop-part
invariant-loop-part l =
    (goal.iterator-loop-part).can_next l.part-iterator ×
    (goal.iterator-loop-part).is_finite l.part-iterator ×
    AreFew l.words.items
