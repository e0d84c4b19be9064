use Rattle.std.proofs.Common.{◌∙◌, FitsSigned, to_z-of_z, rules}
use Rattle.std.specs.Int.{w128}
use Rattle.sc_theory.specs.Chains.{weighted_length}
use Rattle.sc_certificate.proofs.BoundSums.{bound_from_first}
use Rattle.sc_prices.proofs.Sizes.{of_prices}
use Rattle.sc_prices.proofs.tightness.bound.Goals as goal

pub returns : goal.returns
returns c =
    let bound : FitsSigned w128 c.bound_from.result = search rules in
    simp (to_z-of_z bound)
    (record {
      bound = c.bound_from.ensures.bound ∙ bound_from_first c.args.chain.now c.args.list.now;
      small = of_prices (weighted_length c.args.chain.now) c.bound_from.result c.bound_from.ensures.small;
    })
