use Rattle.sc_tables.specs.inside.Trails.{AreTotalsAfter}
use Rattle.sc_tables.proofs.trails.append_totals.Given as goal

abbrev pub invariant-loop-entry : goal.invariant-loop-entry
invariant-loop-entry g l = AreTotalsAfter l.nodes l.table l.initial.cells.items l.cells.items l.entry-index
