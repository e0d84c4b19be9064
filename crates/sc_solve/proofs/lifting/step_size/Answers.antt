use Rattle.std.proofs.Common.{Option, ap, FitsSigned, to_z-of_z, rules}
use Rattle.std.specs.Int.{w128}
use Rattle.sc_theory.specs.Walks.{IsStep}
use Rattle.sc_weight.specs.declared.pair.Pair.{Pair}
use Rattle.sc_tables.specs.Squares.{level_of}
use Rattle.sc_solve.specs.inside.PriceLevels.{levels_of}
use Rattle.sc_solve.specs.inside.Lifts.{fine_in}
use Rattle.sc_solve.proofs.Sizes.{size_of_step}
use Rattle.sc_solve.proofs.lifting.step_size.Goals as goal

pub returns-in-Ok-clause-size : goal.returns-in-Ok-clause-size
returns-in-Ok-clause-size c =
    let step : IsStep c.args.chain.now c.args.from c.args.to = search rules in
    let fits : FitsSigned w128 c.in-Ok.size = search rules in
    let fits_price : FitsSigned w128 c.price-price.result.fine = search rules in
    let size = simp (to_z-of_z fits_price) at c.in-Ok.ensures.size in
    simp (to_z-of_z fits)
    (size_of_step c.args.chain.now (fine_in c.args.steps.now) c.args.from c.args.to c.price-price.result.fine c.in-Ok.size step
    (ap (λ (o : Option Pair). (level_of levels_of o).fine) c.price-price.ensures) size)
