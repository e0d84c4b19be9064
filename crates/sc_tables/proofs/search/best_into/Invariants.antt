use Rattle.sc_tables.specs.inside.Searches.{IsBest}
use Rattle.sc_tables.proofs.search.best_into.Given as goal

abbrev pub invariant-loop-node : goal.invariant-loop-node
invariant-loop-node g l = IsBest g.W.Weight.levels l.prices l.nodes l.fresh l.node l.end l.to l.best
