use Rattle.std.proofs.Common.{pos, ◌<ℤ◌, int_div, unsigned_abs, FitsSigned, to_z-of_z, sym, ap, ◌∙◌, subst, subst₂, rules}
use Rattle.std.specs.Int.{w128}
use Rattle.sc_whole.proofs.DivisorLaws.{gcd_exists}
use Rattle.sc_fraction.specs.Quotient.{SameQuotient}
use Rattle.sc_fraction.proofs.Arithmetic.{divided_positive, mul_positive, difference_quotient}
use Rattle.sc_whole.proofs.ExactDivision.{exact_quotient}
use Rattle.sc_fraction.proofs.frac.Frac.minus.Goals as goal

pub lowest-requires : goal.lowest-requires
lowest-requires c =
    let own = c.args.self.now in
    let other = c.args.other.now in
    let divisor = gcd_exists (unsigned_abs own.den) (unsigned_abs other.den) in
    let parts = c.in_ok-difference.ensures.value divisor.0 divisor.1 in
    let scale = exact_quotient other.den divisor.0 divisor.1.1 in
    let fits : FitsSigned w128 c.in_ok-difference.den = search rules in
    subst (λ t. pos 0 <ℤ t) (sym (to_z-of_z fits ∙ ap (λ r. r.1) parts))
    (mul_positive own.den (int_div other.den (pos divisor.0)) own.positive (divided_positive divisor.0 (int_div other.den (pos divisor.0)) other.den scale other.positive))

pub returns-clause-value : goal.returns-clause-value
returns-clause-value c =
    let own = c.args.self.now in
    let other = c.args.other.now in
    let divisor = gcd_exists (unsigned_abs own.den) (unsigned_abs other.den) in
    let parts = c.in_ok-difference.ensures.value divisor.0 divisor.1 in
    let num_fits : FitsSigned w128 c.in_ok-difference.difference = search rules in
    let den_fits : FitsSigned w128 c.in_ok-difference.den = search rules in
    difference_quotient c.lowest.result.num c.lowest.result.den own.num own.den other.num other.den (int_div other.den (pos divisor.0)) (int_div own.den (pos divisor.0)) divisor.0
    (exact_quotient other.den divisor.0 divisor.1.1)
    (exact_quotient own.den divisor.0 divisor.1.0)
    (subst₂ (λ s d. SameQuotient c.lowest.result.num c.lowest.result.den s d) (to_z-of_z num_fits ∙ ap (λ r. r.0) parts) (to_z-of_z den_fits ∙ ap (λ r. r.1) parts) c.lowest.ensures)
