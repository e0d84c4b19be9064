use Rattle.std.proofs.Common.{FitsSigned, to_z-of_z, rules}
use Rattle.std.specs.Int.{w128}
use Rattle.sc_solve.specs.inside.Lifts.{fine_in}
use Rattle.sc_solve.proofs.Sizes.{next_cell, all_cells}
use Rattle.sc_solve.proofs.lifting.greatest_size.Goals as goal

pub loop-cell-preserved : goal.loop-cell-preserved
loop-cell-preserved c =
    let fits : FitsSigned w128 c.in_ok-size.size = search rules in
    let second = simp (to_z-of_z fits) at c.greater-greatest.ensures.second in
    let one = simp (to_z-of_z fits) at c.greater-greatest.ensures.one in
    let fits_new : FitsSigned w128 c.greater-greatest.result = search rules in
    simp (to_z-of_z fits_new)
    (next_cell c.args.chain.now (fine_in c.args.steps.now) c.loop-cell.cell c.positions-side.result c.in_ok-size.size c.positions-side.ensures.positions c.in_ok-size.ensures.size _ c.greater-greatest.result c.loop-cell.invariant c.greater-greatest.ensures.first second one)

pub returns-clause-greatest : goal.returns-clause-greatest
returns-clause-greatest c =
    all_cells c.args.chain.now (fine_in c.args.steps.now) c.positions-side.result c.loop-cell.cell _ c.positions-side.ensures.positions c.loop-cell-test.false c.loop-cell.invariant
