use Rattle.std.proofs.Common.{◌≡◌, ◌≤◌, ◌^◌, FitsSigned, to_z, of_z, to_z-of_z, ap, ◌∙◌, pos, ◌*ℤ◌, int_div, rules}
use Rattle.std.specs.Int.{w128, int_signum}
use Rattle.sc_whole.proofs.ExactDivision.{exact_quotient, wide_quotient, not_fits}
use Rattle.sc_whole.proofs.division.quotient.Goals as goal

-- what the division gives, as the other clause says
divided : (c : goal.In-Ok) → to_z w128 (of_z w128 (int_div (to_z w128 (of_z w128 c.args.x)) (to_z w128 (of_z w128 c.in-Ok.divisor)))) ≡ int_div c.args.x (pos c.args.divisor)
divided c = search rules

pub returns-in-Ok-clause-exact : goal.returns-in-Ok-clause-exact
returns-in-Ok-clause-exact c = ap (λ t. pos c.args.divisor *ℤ t) (divided c) ∙ exact_quotient c.args.x c.args.divisor c.requires.divides

signed : (c : goal.After-signum) → to_z w128 (of_z w128 c.signum.result) ≡ int_div c.args.x (pos c.args.divisor)
signed c =
    let large : 2 ^ 127 ≤ c.args.divisor = not_fits c.args.divisor c.in-Err.ensures in
    let fits : FitsSigned w128 c.signum.result = search rules in
    to_z-of_z fits ∙ c.signum.ensures.value ∙ ap int_signum (to_z-of_z c.ranges.x) ∙ wide_quotient c.args.x c.args.divisor c.ranges.x large c.requires.divides

pub returns-in-Err-clause-value : goal.returns-in-Err-clause-value
returns-in-Err-clause-value = signed

pub returns-in-Err-clause-exact : goal.returns-in-Err-clause-exact
returns-in-Err-clause-exact c = ap (λ t. pos c.args.divisor *ℤ t) (signed c) ∙ exact_quotient c.args.x c.args.divisor c.requires.divides
