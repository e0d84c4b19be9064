use Rattle.std.proofs.Common.{FitsSigned, ◌+ℤ◌, ◌∙◌, to_z-of_z, arith, rules}
use Rattle.std.proofs.lemmas.Int.{ints}
use Rattle.std.specs.Int.{w128}
use Rattle.sc_prices.proofs.StepPrices.{step_price_is}
use Rattle.sc_prices.proofs.prices.step_price.Goals as goal

pub returns-clause-price : goal.returns-clause-price
returns-clause-price c =
    let pair : FitsSigned w128 c.pair_price.result = search rules in
    let base : FitsSigned w128 c.base_price.result = search rules in
    let both : FitsSigned w128 (c.pair_price.result +ℤ c.base_price.result) =
    omega (arith, ints, c.pair_price.ensures.small.low, c.pair_price.ensures.small.high, c.base_price.ensures.small.low, c.base_price.ensures.small.high) in
    simp (to_z-of_z pair, to_z-of_z base)
    (to_z-of_z both
    ∙ step_price_is c.args.chain.now c.args.pairs.now c.args.list.now c.args.from c.args.to c.succ.result c.pair_price.result c.base_price.result
    c.requires.pairs c.requires.sizes.pair c.succ.ensures.succ c.pair_price.ensures.price c.base_price.ensures.price)
