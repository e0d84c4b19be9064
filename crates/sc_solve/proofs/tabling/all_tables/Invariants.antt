use Rattle.sc_solve.specs.inside.ListSteps.{AreFirstTables}
use Rattle.sc_solve.proofs.tabling.all_tables.Given as goal

abbrev pub invariant-loop-start : goal.invariant-loop-start
invariant-loop-start l = AreFirstTables l.distances l.start l.tables
