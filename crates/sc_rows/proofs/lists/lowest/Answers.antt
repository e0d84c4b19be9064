use Rattle.std.proofs.Common.{◌∙◌, FitsSigned, to_z-of_z, rules}
use Rattle.std.specs.Int.{w128}
use Rattle.sc_rows.proofs.Divisors.{divisor_of_positive, lowest_by_divisor}
use Rattle.sc_rows.proofs.lists.lowest.Goals as goal

pub quotient-requires-clause-positive : goal.quotient-requires-clause-positive
quotient-requires-clause-positive c =
    let gcd = simp (to_z-of_z c.ranges.m, to_z-of_z c.ranges.a) at c.gcd-divisor.ensures in
    divisor_of_positive c.args.m c.args.a c.gcd-divisor.result c.requires gcd

pub quotient-requires-2-clause-positive : goal.quotient-requires-2-clause-positive
quotient-requires-2-clause-positive c =
    let gcd = simp (to_z-of_z c.ranges.m, to_z-of_z c.ranges.a) at c.gcd-divisor.ensures in
    divisor_of_positive c.args.m c.args.a c.gcd-divisor.result c.requires gcd

pub returns : goal.returns
returns c =
    let num : FitsSigned w128 c.quotient.result = search rules in
    let den : FitsSigned w128 c.quotient-2.result = search rules in
    let gcd = simp (to_z-of_z c.ranges.m, to_z-of_z c.ranges.a) at c.gcd-divisor.ensures in
    let exact_num = c.quotient.ensures.exact ∙ to_z-of_z c.ranges.a in
    let exact_den = c.quotient-2.ensures.exact ∙ to_z-of_z c.ranges.m in
    simp (to_z-of_z num, to_z-of_z den) (
    lowest_by_divisor c.args.m c.args.a c.quotient-2.result c.quotient.result c.gcd-divisor.result c.requires gcd exact_num exact_den
    )
