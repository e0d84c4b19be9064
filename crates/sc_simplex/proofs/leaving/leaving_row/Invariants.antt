use Rattle.sc_basis.specs.Products.{at}
use Rattle.sc_simplex.specs.inside.Leaving.{IsBest}
use Rattle.sc_simplex.proofs.leaving.leaving_row.Given as goal

abbrev pub invariant-loop-index : goal.invariant-loop-index
invariant-loop-index l = IsBest l.rows (at l.rhs.items) (at l.along) l.index l.best
