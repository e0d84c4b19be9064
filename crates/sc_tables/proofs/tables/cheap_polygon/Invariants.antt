use Rattle.sc_tables.specs.StepPrices.{price_in}
use Rattle.sc_tables.proofs.SearchedTables.{AreSearched}
use Rattle.sc_tables.proofs.tables.cheap_polygon.Given as goal

abbrev pub invariant-loop-start : goal.invariant-loop-start
invariant-loop-start g l = AreSearched g.W.Weight.levels l.chain (price_in g.W.Weight.levels l.prices) (g.W.Weight.levels l.threshold) l.prices.side l.start l.cells.items
