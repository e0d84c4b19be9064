use Rattle.std.proofs.Common.{◌≡◌, ◌*◌, ◌*ℤ◌, ◌∙◌, length, ℤ, ap, pos, sym, subst, FitsSigned, to_z-of_z, arith, rules}
use Rattle.std.specs.Int.{w128}
use Rattle.sc_theory.specs.Chains.{weight, word}
use Rattle.sc_certificate.specs.Bounds.{IsWithinPrices}
use Rattle.sc_certificate.proofs.BoundSums.{weighted, weighted_fits}
use Rattle.sc_certificate.proofs.bounds.weighted_price.Goals as goal

pub overflow_mul-result : goal.overflow_mul-result
overflow_mul-result c =
    let price : FitsSigned w128 c.word_price.result = search rules in
    let factor : FitsSigned w128 c.from.result = search rules in
    simp (to_z-of_z price, to_z-of_z factor)
    (weighted_fits c.weight.result c.from.result c.word_price.result c.from.ensures c.weight.type_inv c.word_price.ensures.small)

pub returns : goal.returns
returns c =
    let price : FitsSigned w128 c.word_price.result = search rules in
    let factor : FitsSigned w128 c.from.result = search rules in
    let product : FitsSigned w128 (c.from.result *ℤ c.word_price.result) =
    weighted_fits c.weight.result c.from.result c.word_price.result c.from.ensures c.weight.type_inv c.word_price.ensures.small in
    let times : c.from.result ≡ pos (weight c.args.chain.now c.args.w) = c.from.ensures ∙ ap pos c.weight.ensures in
    simp (to_z-of_z price, to_z-of_z factor, to_z-of_z product)
    (record {
      price = ap (λ (z : ℤ). z *ℤ c.word_price.result) times ∙ ap (λ (z : ℤ). pos (weight c.args.chain.now c.args.w) *ℤ z) c.word_price.ensures.price;
      small =
          subst (λ (z : ℤ). IsWithinPrices (weight c.args.chain.now c.args.w * length (word c.args.chain.now c.args.w)) (z *ℤ c.word_price.result)) (sym times)
          (weighted c.args.chain.now c.args.w c.word_price.result c.requires.chain.chain c.requires.in_range c.word_price.ensures.small);
    })

pub overflow_add-from : goal.overflow_add-from
overflow_add-from c = omega (arith, c.requires.from, c.requires.in_range, c.requires.chain.few_words)
