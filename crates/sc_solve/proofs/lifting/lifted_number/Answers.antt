use Rattle.std.proofs.Common.{inr, ap, subst, ◌∙◌, ℤ, ◌+ℤ◌, FitsSigned, to_z-of_z, rules}
use Rattle.std.specs.Int.{w128}
use Rattle.std.proofs.lemmas.Result.{err_from_is_err_and}
use Rattle.sc_text.specs.PriceLines.{IsPriceInRange}
use Rattle.sc_solve.specs.Lifts.{IsLargeAt}
use Rattle.sc_solve.proofs.lifting.lifted_number.Goals as goal

pub returns-in_err-price-clause-faults : goal.returns-in_err-price-clause-faults
returns-in_err-price-clause-faults c =
    let fits_fine : FitsSigned w128 c.args.fine = search rules in
    let fits_factor : FitsSigned w128 c.args.factor = search rules in
    let fits_bulk : FitsSigned w128 c.args.bulk = search rules in
    let fits_product : FitsSigned w128 c.in_ok-product.product = search rules in
    let fits_lifted : FitsSigned w128 c.in_ok-lifted.lifted = search rules in
    let product = simp (to_z-of_z fits_factor, to_z-of_z fits_bulk) at c.in_ok-product.ensures.value in
    let value = simp (to_z-of_z fits_fine, to_z-of_z fits_product) at c.in_ok-lifted.ensures.value in
    let large = simp (to_z-of_z fits_lifted) at c.in_err-price.ensures.faults in
    let p = err_from_is_err_and c.from_residual-in_err-price.result c.from_residual-in_err-price.ensures.1 in
    rw (p.1, p.2) (inr (inr (
    subst (λ (z : ℤ). IsLargeAt c.args.row z c.in_err-price.field-0.0 × ¬ IsPriceInRange z)
    (value ∙ ap (λ (z : ℤ). c.args.fine +ℤ z) product) large)))
