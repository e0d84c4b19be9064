use Rattle.sc_tables.specs.inside.States.{IsState}
use Rattle.sc_tables.proofs.explore.explore.Given as goal

abbrev pub invariant-loop-done : goal.invariant-loop-done
invariant-loop-done g l =
    IsState g.W.Weight.levels l.chain l.prices (g.W.Weight.levels l.threshold) l.start l.done l.fresh l.trails.nodes.items l.trails.table.items
