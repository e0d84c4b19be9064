use Rattle.std.proofs.Common.{◌≡◌, ◌∙◌, ap, length, FitsSigned, to_z-of_z, rules}
use Rattle.std.specs.Int.{w128}
use Rattle.sc_basis.specs.Products.{at}
use Rattle.sc_basis.proofs.CommonDivisors.{divisor_positive, divided_by}
use Rattle.sc_rows.proofs.Divisors.{reduced_already}
use Rattle.sc_rows.proofs.Written.{written}
use Rattle.sc_rows.proofs.lists.reduce.Goals as goal

pub returns-then-divisor-eq1-clause-reduced : goal.returns-then-divisor-eq1-clause-reduced
returns-then-divisor-eq1-clause-reduced c =
    let common = simp (c.as_slice.ensures.value, to_z-of_z c.ranges.den) at c.common_divisor-divisor.ensures in
    simp (to_z-of_z c.ranges.den) (
    reduced_already (length c.args.entries.items) (at c.args.entries.items) c.args.den c.common_divisor-divisor.result c.requires common c.if-divisor-eq1.true
    )

pub divide-requires-clause-positive : goal.divide-requires-clause-positive
divide-requires-clause-positive c =
    let common = simp (c.as_slice.ensures.value, to_z-of_z c.ranges.den) at c.common_divisor-divisor.ensures in
    divisor_positive (length c.args.entries.items) (at c.args.entries.items) c.args.den c.common_divisor-divisor.result c.requires common

pub divide-requires-clause-divides : goal.divide-requires-clause-divides
divide-requires-clause-divides c =
    let common = simp (c.as_slice.ensures.value, to_z-of_z c.ranges.den) at c.common_divisor-divisor.ensures in
    simp c.as_mut_slice.ensures.value common.of_entries

pub quotient-requires-clause-positive : goal.quotient-requires-clause-positive
quotient-requires-clause-positive c =
    let common = simp (c.as_slice.ensures.value, to_z-of_z c.ranges.den) at c.common_divisor-divisor.ensures in
    divisor_positive (length c.args.entries.items) (at c.args.entries.items) c.args.den c.common_divisor-divisor.result c.requires common

pub returns-clause-reduced : goal.returns-clause-reduced
returns-clause-reduced c =
    let common = simp (c.as_slice.ensures.value, to_z-of_z c.ranges.den) at c.common_divisor-divisor.ensures in
    let list : c.as_mut_slice.result.now ≡ c.args.entries.items = c.as_mut_slice.ensures.value in
    let size : length c.divide.new.entries ≡ length c.args.entries.items = c.divide.auto.entries ∙ ap length list in
    let same = written c.divide.new.entries c.args.entries.items c.args.entries.len size c.args.entries.ok.0 in
    let entries = simp list at c.divide.ensures in
    let den : FitsSigned w128 c.quotient.result = search rules in
    let exact = c.quotient.ensures.exact ∙ to_z-of_z c.ranges.den in
    simp (same, to_z-of_z den) (
    divided_by (length c.args.entries.items) (at c.divide.new.entries) (at c.args.entries.items) c.quotient.result c.args.den c.common_divisor-divisor.result c.requires common entries exact
    )
