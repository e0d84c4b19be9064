use Rattle.std.proofs.Common.{◌*ℤ◌, pos, ◌<ℤ◌, FitsSigned, to_z-of_z, arith, rules}
use Rattle.std.specs.Int.{w128}
use Rattle.std.proofs.lemmas.Int.{ints}
use Rattle.sc_fraction.specs.Frac.{numerator, denominator}
use Rattle.sc_cone.specs.Cones.{chain_of}
use Rattle.sc_crossing.proofs.FormNumbers.{tight_test}
use Rattle.sc_crossing.proofs.tightness.is_tight_at.Goals as goal

pub returns : goal.returns
returns c =
    let number : FitsSigned w128 c.list_number-number.result = search rules in
    let scale : FitsSigned w128 c.scale.result = search rules in
    let unit : FitsSigned w128 (pos 4 *ℤ c.scale.result) = search rules in
    let num : FitsSigned w128 c.num.result = search rules in
    let den : FitsSigned w128 c.den.result = search rules in
    let compared = simp (to_z-of_z number, to_z-of_z scale, to_z-of_z unit, to_z-of_z num, to_z-of_z den) at c.compare_ratios.ensures in
    let some : pos 0 <ℤ c.args.list.now.scale = omega (arith, ints, c.scale.ensures.small.scale.low) in
    λ q value.
    tight_test (chain_of q c.args.first.now c.args.second.now c.args.direction) c.args.list.now
    c.list_number-number.result c.scale.result c.num.result c.den.result c.compare_ratios.result c.eq.result
    (numerator c.args.value.now) (denominator c.args.value.now) c.eq.ensures compared (c.list_number-number.ensures q) c.scale.ensures.scale
    c.num.ensures c.den.ensures.value some value
