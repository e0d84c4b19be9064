use Rattle.sc_tables.specs.inside.States.{IsFirstTable}
use Rattle.sc_tables.proofs.explore.first_table.Given as goal

abbrev pub invariant-loop-place : goal.invariant-loop-place
invariant-loop-place l = IsFirstTable l.start l.place l.table.items
