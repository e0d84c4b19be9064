use Rattle.std.proofs.Common.{FitsSigned, to_z-of_z, rules}
use Rattle.std.specs.Int.{w64, w128}
use Rattle.sc_crossing.proofs.PrimitiveSums.{divisor_above, divided_primitive, divided_sum}
use Rattle.sc_crossing.proofs.next.primitive_sum.Goals as goal

pub quotient-requires-clause-positive : goal.quotient-requires-clause-positive
quotient-requires-clause-positive c =
    let from_s : FitsSigned w64 c.args.from.s = search rules in
    let to_s : FitsSigned w64 c.args.to.s = search rules in
    let from_t : FitsSigned w64 c.args.from.t = search rules in
    let to_t : FitsSigned w64 c.args.to.t = search rules in
    divisor_above c.args.from c.args.to c.from.result c.from-2.result c.from-3.result c.from-4.result c.gcd-divisor.result from_s to_s from_t to_t
    c.from.ensures c.from-2.ensures c.from-3.ensures c.from-4.ensures c.requires c.gcd-divisor.ensures

pub quotient-requires-2-clause-positive : goal.quotient-requires-2-clause-positive
quotient-requires-2-clause-positive c =
    let from_s : FitsSigned w64 c.args.from.s = search rules in
    let to_s : FitsSigned w64 c.args.to.s = search rules in
    let from_t : FitsSigned w64 c.args.from.t = search rules in
    let to_t : FitsSigned w64 c.args.to.t = search rules in
    divisor_above c.args.from c.args.to c.from.result c.from-2.result c.from-3.result c.from-4.result c.gcd-divisor.result from_s to_s from_t to_t
    c.from.ensures c.from-2.ensures c.from-3.ensures c.from-4.ensures c.requires c.gcd-divisor.ensures

pub returns : goal.returns
returns c =
    let from_s : FitsSigned w64 c.args.from.s = search rules in
    let to_s : FitsSigned w64 c.args.to.s = search rules in
    let from_t : FitsSigned w64 c.args.from.t = search rules in
    let to_t : FitsSigned w64 c.args.to.t = search rules in
    let first : FitsSigned w128 c.quotient.result = search rules in
    let second : FitsSigned w128 c.quotient-2.result = search rules in
    simp (to_z-of_z first, to_z-of_z second)
    (record {
      primitive =
          divided_primitive c.args.from c.args.to c.from.result c.from-2.result c.from-3.result c.from-4.result c.gcd-divisor.result from_s to_s from_t to_t
          c.from.ensures c.from-2.ensures c.from-3.ensures c.from-4.ensures c.requires c.gcd-divisor.ensures
          c.quotient.result c.quotient-2.result c.quotient.ensures.exact c.quotient-2.ensures.exact;
      sum =
          divided_sum c.args.from c.args.to c.from.result c.from-2.result c.from-3.result c.from-4.result c.gcd-divisor.result from_s to_s from_t to_t
          c.from.ensures c.from-2.ensures c.from-3.ensures c.from-4.ensures c.requires c.gcd-divisor.ensures
          c.quotient.result c.quotient-2.result c.quotient.ensures.exact c.quotient-2.ensures.exact;
    })
