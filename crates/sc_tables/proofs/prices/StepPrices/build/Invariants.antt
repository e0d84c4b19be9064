use Rattle.sc_tables.proofs.StepCells.{AreCells}
use Rattle.sc_tables.proofs.prices.StepPrices.build.Given as goal

abbrev pub invariant-loop-cell : goal.invariant-loop-cell
invariant-loop-cell g l = AreCells g.W.Weight.levels l.chain l.pair l.base l.side l.cell l.cells.items
