use Rattle.std.proofs.Common.{ℤ, pos, FitsSigned, to_z-of_z, rules, subst₂, ◌∙◌}
use Rattle.std.specs.Int.{w128}
use Rattle.sc_fraction.specs.Frac.{IsQuotient}
use Rattle.sc_assembly.proofs.OneMultiple.{times_of_quotient}
use Rattle.sc_assembly_tests.proofs.counting.valued_part.Goals as goal

pub returns-clause-times : goal.returns-clause-times
returns-clause-times g c =
    let own = rw c.expect-value.ensures at c.new.ensures.value in
    let num_fits : FitsSigned w128 c.from.result = search rules in
    let den_fits : FitsSigned w128 c.from-2.result = search rules in
    let is : IsQuotient (pos c.args.count) (pos c.args.n) c.expect-value.result =
    subst₂ (λ (a b : ℤ). IsQuotient a b c.expect-value.result) (to_z-of_z num_fits ∙ c.from.ensures) (to_z-of_z den_fits ∙ c.from-2.ensures) own in
    times_of_quotient c.args.n c.args.count c.expect-value.result is
