use Rattle.std.proofs.Common.{arith, add-one, FitsSigned, to_z-of_z, rules, length}
use Rattle.std.specs.Int.{w128}
use Rattle.sc_basis.specs.Products.{at}
use Rattle.sc_basis.proofs.CommonDivisors.{divisor_first, divisor_next, divisor_one}
use Rattle.sc_rows.proofs.lists.common_divisor.Goals as goal

pub loop-index-init : goal.loop-index-init
loop-index-init c =
    let size = simp (to_z-of_z c.ranges.den) at c.unsigned_abs-divisor.ensures.value in
    record { divisor = simp (to_z-of_z c.ranges.den, size) (divisor_first (at c.args.entries.now) c.args.den) }

pub returns-then-divisor-eq1 : goal.returns-then-divisor-eq1
returns-then-divisor-eq1 c =
    let divisor = simp (to_z-of_z c.ranges.den, c.if-divisor-eq1.true) at c.loop-index.invariant.divisor in
    divisor_one c.loop-index.index (length c.args.entries.now) (at c.args.entries.now) c.args.den (omega arith) divisor

pub loop-index-preserved : goal.loop-index-preserved
loop-index-preserved c =
    let fits : FitsSigned w128 (at c.args.entries.now c.loop-index.index) = search rules in
    let size = simp (to_z-of_z fits) at c.unsigned_abs.ensures.value in
    let gcd = simp size at c.gcd_of_sizes-divisor.ensures in
    record {
      divisor = rw add-one (divisor_next c.loop-index.index (at c.args.entries.now) _ c.loop-index.divisor c.gcd_of_sizes-divisor.result c.loop-index.invariant.divisor gcd);
    }
