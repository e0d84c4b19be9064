use Rattle.std.proofs.Common.{◌+◌, ◌*ℤ◌, ◌+ℤ◌, ℤ, pos, get_or, FitsSigned, to_z, to_z-of_z, rules}
use Rattle.std.specs.Int.{w128}
use Rattle.sc_theory.specs.Chains.{weight}
use Rattle.sc_certificate.proofs.BoundSums.{total_more, total_fits, sum_more}
use Rattle.sc_certificate.proofs.bounds.bound_from.Goals as goal

pub loop-w-preserved : goal.loop-w-preserved
loop-w-preserved c =
    let chain = c.args.chain.now in
    let before : ℤ = to_z w128 c.loop-w.total-bits in
    let here : ℤ = c.weighted_price-total.result in
    let price : FitsSigned w128 here = search rules in
    let sum : FitsSigned w128 (before +ℤ here) =
    total_fits chain c.loop-w.w before here c.words-w-end.ensures.small (search rules) c.loop-w.invariant.small c.weighted_price-total.ensures.small in
    simp (to_z-of_z price, to_z-of_z sum)
    (record {
      total =
          sum_more (λ w. pos (weight chain w) *ℤ get_or c.args.list.now.base (c.args.from + w) (pos 0)) c.loop-w.w before here c.loop-w.invariant.total
          c.weighted_price-total.ensures.price;
      small =
          total_more chain c.loop-w.w before here c.words-w-end.ensures.small (search rules) c.loop-w.invariant.small c.weighted_price-total.ensures.small;
    })
