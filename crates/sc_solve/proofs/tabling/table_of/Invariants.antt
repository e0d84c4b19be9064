use Rattle.sc_solve.specs.inside.ListSteps.{IsTableOf}
use Rattle.sc_solve.proofs.tabling.table_of.Given as goal

abbrev pub invariant-loop-place : goal.invariant-loop-place
invariant-loop-place l = IsTableOf l.distances l.start l.place l.entries.items
