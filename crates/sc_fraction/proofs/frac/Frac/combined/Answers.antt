use Rattle.std.proofs.Common.{◌≡◌, ◌*ℤ◌, FitsSigned, IfOk, to_z-of_z, rules}
use Rattle.std.specs.Int.{w128}
use Rattle.std.proofs.lemmas.Result.{MatchResult-weaker}
use Rattle.sc_whole.specs.Operation.{exact_result, AllFit, IsFirstWide}
use Rattle.sc_fraction.specs.Steps.{scaled_sum_steps}
use Rattle.sc_fraction.proofs.Arithmetic.{at_gcd}
use Rattle.sc_fraction.proofs.frac.Frac.combined.Goals as goal

pub returns-clause-value : goal.returns-clause-value
returns-clause-value c =
    let num : FitsSigned w128 c.args.self.now.num = search rules in
    let den : FitsSigned w128 c.args.self.now.den = search rules in
    let other_num : FitsSigned w128 c.args.other.now.num = search rules in
    let other_den : FitsSigned w128 c.args.other.now.den = search rules in
    let scale : FitsSigned w128 c.quotient-scale.result = search rules in
    let other_scale : FitsSigned w128 c.quotient-other_scale.result = search rules in
    let divisor = simp to_z-of_z at c.gcd-divisor.ensures in
    let scale_is = simp to_z-of_z at c.quotient-scale.ensures.value in
    let other_scale_is = simp to_z-of_z at c.quotient-other_scale.ensures.value in
    let all = simp to_z-of_z at c.scaled_sum.ensures.value in
    λ g gcd. at_gcd (λ s t. IfOk c.scaled_sum.result (λ r. r ≡ (exact_result c.args.op (c.args.self.now.num *ℤ s) (c.args.other.now.num *ℤ t), c.args.self.now.den *ℤ s))) c.args.self.now.den c.args.other.now.den _ _ c.gcd-divisor.result g divisor gcd scale_is other_scale_is all

pub returns-clause-fits : goal.returns-clause-fits
returns-clause-fits c =
    let num : FitsSigned w128 c.args.self.now.num = search rules in
    let den : FitsSigned w128 c.args.self.now.den = search rules in
    let other_num : FitsSigned w128 c.args.other.now.num = search rules in
    let other_den : FitsSigned w128 c.args.other.now.den = search rules in
    let scale : FitsSigned w128 c.quotient-scale.result = search rules in
    let other_scale : FitsSigned w128 c.quotient-other_scale.result = search rules in
    let divisor = simp to_z-of_z at c.gcd-divisor.ensures in
    let scale_is = simp to_z-of_z at c.quotient-scale.ensures.value in
    let other_scale_is = simp to_z-of_z at c.quotient-other_scale.ensures.value in
    let all = simp to_z-of_z at c.scaled_sum.ensures.fits in
    MatchResult-weaker c.scaled_sum.result all (λ x fits g gcd. at_gcd (λ s t. AllFit (scaled_sum_steps c.args.op c.args.self.now.num c.args.self.now.den c.args.other.now.num s t)) c.args.self.now.den c.args.other.now.den _ _ c.gcd-divisor.result g divisor gcd scale_is other_scale_is fits) (λ w t. t)

pub returns-clause-evidence : goal.returns-clause-evidence
returns-clause-evidence c =
    let num : FitsSigned w128 c.args.self.now.num = search rules in
    let den : FitsSigned w128 c.args.self.now.den = search rules in
    let other_num : FitsSigned w128 c.args.other.now.num = search rules in
    let other_den : FitsSigned w128 c.args.other.now.den = search rules in
    let scale : FitsSigned w128 c.quotient-scale.result = search rules in
    let other_scale : FitsSigned w128 c.quotient-other_scale.result = search rules in
    let divisor = simp to_z-of_z at c.gcd-divisor.ensures in
    let scale_is = simp to_z-of_z at c.quotient-scale.ensures.value in
    let other_scale_is = simp to_z-of_z at c.quotient-other_scale.ensures.value in
    let all = simp to_z-of_z at c.scaled_sum.ensures.evidence in
    MatchResult-weaker c.scaled_sum.result all (λ x t. t) (λ w first g gcd. at_gcd (λ s t. IsFirstWide (scaled_sum_steps c.args.op c.args.self.now.num c.args.self.now.den c.args.other.now.num s t) w) c.args.self.now.den c.args.other.now.den _ _ c.gcd-divisor.result g divisor gcd scale_is other_scale_is first)
