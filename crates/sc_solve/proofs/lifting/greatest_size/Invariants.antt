use Rattle.sc_solve.specs.inside.Lifts.{fine_in}
use Rattle.sc_solve.proofs.Sizes.{IsGreatestBefore}
use Rattle.sc_solve.proofs.lifting.greatest_size.Given as goal

abbrev pub invariant-loop-cell : goal.invariant-loop-cell
invariant-loop-cell l = IsGreatestBefore l.chain (fine_in l.steps) l.cell l.greatest
