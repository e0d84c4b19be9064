use Rattle.sc_tables.proofs.NextTables.{AreNextBelow}
use Rattle.sc_tables.proofs.search.next_table.Given as goal

abbrev pub invariant-loop-place : goal.invariant-loop-place
invariant-loop-place g l =
    AreNextBelow g.W.Weight.levels l.prices l.initial.nodes.items l.nodes.items l.round.fresh l.round.start l.round.steps l.table l.next.items l.place
