use Rattle.std.proofs.Common.{◌≡◌, pos, ◌<◌, ◌<ℤ◌, unsigned_abs, FitsSigned, of_z, to_z-of_z, sym, ap, ◌∙◌, subst, subst₂, rules}
use Rattle.std.specs.Int.{w128, IsGcd}
use Rattle.std.proofs.lemmas.Nat.Gcd.{IsGcd-swap}
use Rattle.std.proofs.lemmas.Result.{err_from_is_err_and}
use Rattle.sc_whole.specs.Operation.{AllFit, IsFirstWide}
use Rattle.sc_whole.proofs.DivisorLaws.{IsGcd-pos}
use Rattle.sc_fraction.specs.Quotient.{SameQuotient}
use Rattle.sc_fraction.specs.Steps.{turn_steps}
use Rattle.sc_fraction.proofs.Arithmetic.{at_gcd, divided_quotient, divided_nonzero, divided_coprime, size_nonzero, turn_positive, turned_coprime, turned_quotient}
use Rattle.sc_fraction.proofs.frac.Frac.new.Goals as goal

pub returns-in_err-num-clause-evidence : goal.returns-in_err-num-clause-evidence
returns-in_err-num-clause-evidence c =
    let num : FitsSigned w128 c.quotient.result = search rules in
    let den : FitsSigned w128 c.quotient-2.result = search rules in
    let refused = err_from_is_err_and c.from_residual.result c.from_residual.ensures.1 in
    let divisor = simp (to_z-of_z c.ranges.num, to_z-of_z c.ranges.den) at c.gcd-divisor.ensures in
    let num_is = simp (to_z-of_z c.ranges.num) at c.quotient.ensures.value in
    let den_is = simp (to_z-of_z c.ranges.den) at c.quotient-2.ensures.value in
    let first = simp to_z-of_z at c.in_err-num.ensures.evidence in
    rw (refused.1, refused.2) (λ g gcd. at_gcd (λ s t. IsFirstWide (turn_steps t s) c.in_err-num.field-0.0) c.args.num c.args.den _ _ c.gcd-divisor.result g divisor gcd den_is num_is first)

pub returns-clause-fits : goal.returns-clause-fits
returns-clause-fits c =
    let num : FitsSigned w128 c.quotient.result = search rules in
    let den : FitsSigned w128 c.quotient-2.result = search rules in
    let divisor = simp (to_z-of_z c.ranges.num, to_z-of_z c.ranges.den) at c.gcd-divisor.ensures in
    let num_is = simp (to_z-of_z c.ranges.num) at c.quotient.ensures.value in
    let den_is = simp (to_z-of_z c.ranges.den) at c.quotient-2.ensures.value in
    let fits = simp to_z-of_z at c.in_ok-num.ensures.fits in
    λ g gcd. at_gcd (λ s t. AllFit (turn_steps t s)) c.args.num c.args.den _ _ c.gcd-divisor.result g divisor gcd den_is num_is fits

pub invariant_of-result : goal.invariant_of-result
invariant_of-result c =
    let nonzero : ¬ (c.args.den ≡ pos 0) = λ z. c.if-den-eq0.false (ap (of_z w128) z) in
    let p : FitsSigned w128 c.quotient.result = search rules in
    let q : FitsSigned w128 c.quotient-2.result = search rules in
    let num : FitsSigned w128 c.in_ok-num.num = search rules in
    let den : FitsSigned w128 c.in_ok-num.den = search rules in
    let divisor = simp (to_z-of_z c.ranges.num, to_z-of_z c.ranges.den) at c.gcd-divisor.ensures in
    let parts = simp (to_z-of_z p, to_z-of_z q) at c.in_ok-num.ensures.value in
    let exact_p = c.quotient.ensures.exact ∙ to_z-of_z c.ranges.num in
    let exact_q = c.quotient-2.ensures.exact ∙ to_z-of_z c.ranges.den in
    let some : 0 < c.gcd-divisor.result = IsGcd-pos _ _ _ (size_nonzero c.args.den nonzero) (IsGcd-swap _ _ _ divisor) in
    let num_is = to_z-of_z num ∙ ap (λ r. r.0) parts in
    let den_is = to_z-of_z den ∙ ap (λ r. r.1) parts in
    record {
      positive = subst (λ t. pos 0 <ℤ t) (sym den_is) (turn_positive c.quotient-2.result (divided_nonzero _ _ _ exact_q nonzero));
      reduced = subst₂ (λ m n. IsGcd (unsigned_abs m) (unsigned_abs n) 1) (sym num_is) (sym den_is)
          (turned_coprime c.quotient.result c.quotient-2.result (divided_coprime _ _ _ _ _ some exact_p exact_q divisor));
    }

pub returns-clause-value : goal.returns-clause-value
returns-clause-value c =
    let p : FitsSigned w128 c.quotient.result = search rules in
    let q : FitsSigned w128 c.quotient-2.result = search rules in
    let num : FitsSigned w128 c.in_ok-num.num = search rules in
    let den : FitsSigned w128 c.in_ok-num.den = search rules in
    let parts = simp (to_z-of_z p, to_z-of_z q) at c.in_ok-num.ensures.value in
    let exact_p = c.quotient.ensures.exact ∙ to_z-of_z c.ranges.num in
    let exact_q = c.quotient-2.ensures.exact ∙ to_z-of_z c.ranges.den in
    let num_is = to_z-of_z num ∙ ap (λ r. r.0) parts in
    let den_is = to_z-of_z den ∙ ap (λ r. r.1) parts in
    subst₂ (λ m n. SameQuotient m n c.args.num c.args.den) (sym num_is) (sym den_is)
    (turned_quotient c.quotient.result c.quotient-2.result c.args.num c.args.den (divided_quotient c.args.num c.args.den c.quotient.result c.quotient-2.result c.gcd-divisor.result exact_p exact_q))
