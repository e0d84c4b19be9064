use Rattle.std.proofs.Common.{◌+ℤ◌, FitsSigned, refl, sym, ap, ◌∙◌, is_ok, true≢false, rules}
use Rattle.std.specs.Int.{w128}
use Rattle.std.proofs.lemmas.Result.{err_from_is_err_and}
use Rattle.sc_weight.proofs.Passed.{as_given, as_passed}
use Rattle.sc_weight.proofs.pair.PairWeight.plus.Goals as goal

pub returns-in_err-fine-clause-fits : goal.returns-in_err-fine-clause-fits
returns-in_err-fine-clause-fits c =
    let own : FitsSigned w128 c.args.self.now.fine = search rules in
    let added : FitsSigned w128 c.args.other.now.fine = search rules in
    let refused = err_from_is_err_and _ c.from_residual-in_err-fine.ensures.1 in (
      λ h. absurd (true≢false (sym h ∙ ap is_ok refused.1)),
      λ h. absurd (c.in_err-fine.ensures.exact (as_passed (λ x y. FitsSigned w128 (x +ℤ y)) _ _ own added h.fine_fits)),
    )

pub returns-clause-fits : goal.returns-clause-fits
returns-clause-fits c =
    let own_bulk : FitsSigned w128 c.args.self.now.bulk = search rules in
    let added_bulk : FitsSigned w128 c.args.other.now.bulk = search rules in
    let own_fine : FitsSigned w128 c.args.self.now.fine = search rules in
    let added_fine : FitsSigned w128 c.args.other.now.fine = search rules in (
      λ _. record {
        bulk_fits = as_given (λ x y. FitsSigned w128 (x +ℤ y)) _ _ own_bulk added_bulk c.in_ok-bulk.ensures.exact.0;
        fine_fits = as_given (λ x y. FitsSigned w128 (x +ℤ y)) _ _ own_fine added_fine c.in_ok-fine.ensures.exact.0;
      },
      λ _. refl,
    )
