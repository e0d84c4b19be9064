use Rattle.std.proofs.Common.{subst, FitsSigned, to_z-of_z, rules}
use Rattle.std.specs.Int.{w128}
use Rattle.std.proofs.lemmas.Result.{err_from_is_err_and}
use Rattle.sc_weight.specs.declared.pair.Pair.{Pair}
use Rattle.sc_solve.specs.Lifts.{IsWideNumber}
use Rattle.sc_solve.proofs.lifting.lifted_at.Goals as goal

pub returns-in_err-price-clause-faults : goal.returns-in_err-price-clause-faults
returns-in_err-price-clause-faults c =
    let fits_fine : FitsSigned w128 c.pair_of_row-pair.result.fine = search rules in
    let fits_bulk : FitsSigned w128 c.pair_of_row-pair.result.bulk = search rules in
    let fits_factor : FitsSigned w128 c.args.factor = search rules in
    let faults = simp (to_z-of_z fits_fine, to_z-of_z fits_bulk, to_z-of_z fits_factor) at c.in_err-price.ensures.faults in
    let p = err_from_is_err_and c.from_residual.result c.from_residual.ensures.1 in
    rw (p.1, p.2) (subst (λ (x : Pair). IsWideNumber c.args.row x.fine c.args.factor x.bulk c.in_err-price.field-0.0) c.pair_of_row-pair.ensures faults)
