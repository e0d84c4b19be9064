use Rattle.std.proofs.Common.{refl, FitsSigned, to_z-of_z, rules}
use Rattle.std.specs.Int.{w128}
use Rattle.sc_solve.proofs.Sizes.{turned_fits}
use Rattle.sc_solve.proofs.lifting.size_of.Goals as goal

pub returns-in-None-clause-wide : goal.returns-in-None-clause-wide
returns-in-None-clause-wide c =
    let fits : FitsSigned w128 c.args.price = search rules in
    let none = simp (to_z-of_z fits) at c.in-None.ensures in
    simp (to_z-of_z fits) (refl, λ f. none (turned_fits c.args.price f))
