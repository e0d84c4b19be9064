use Rattle.std.proofs.Common.{◌≡◌, pos, FitsSigned, to_z-of_z, ap, ◌∙◌, rules}
use Rattle.std.specs.Int.{w128}
use Rattle.sc_theory.specs.Chains.{weighted_length}
use Rattle.sc_text.specs.PriceLines.{IsScaleInRange}
use Rattle.sc_crossing.proofs.FormNumbers.{form_is, length_fits, bound_fits, number_fits, number_small}
use Rattle.sc_crossing.proofs.numbers.form_number.Goals as goal

pub returns : goal.returns
returns c =
    let chain = c.args.chain.now in
    let list = c.args.list.now in
    let scale : FitsSigned w128 c.scale.result = search rules in
    let times : FitsSigned w128 c.from.result = search rules in
    let bound : FitsSigned w128 c.bound_from.result = search rules in
    let times_is : c.from.result ≡ pos (weighted_length chain) = c.from.ensures ∙ ap pos c.length.ensures.length in
    let small = c.length.ensures.small in
    let in_range : IsScaleInRange list.scale = c.scale.ensures.small.scale in
    let scaled = length_fits chain list c.args.from c.scale.result c.from.result c.bound_from.result small in_range c.scale.ensures.scale times_is c.bound_from.ensures.bound c.bound_from.ensures.small in
    let doubled = bound_fits chain list c.args.from c.scale.result c.from.result c.bound_from.result small in_range c.scale.ensures.scale times_is c.bound_from.ensures.bound c.bound_from.ensures.small in
    let whole = number_fits chain list c.args.from c.scale.result c.from.result c.bound_from.result small in_range c.scale.ensures.scale times_is c.bound_from.ensures.bound c.bound_from.ensures.small in
    simp (to_z-of_z scale, to_z-of_z times, to_z-of_z bound, to_z-of_z scaled, to_z-of_z doubled, to_z-of_z whole)
    (record {
      number = form_is chain list c.args.from c.scale.result c.from.result c.bound_from.result small in_range c.scale.ensures.scale times_is c.bound_from.ensures.bound c.bound_from.ensures.small;
      small = number_small chain list c.args.from c.scale.result c.from.result c.bound_from.result small in_range c.scale.ensures.scale times_is c.bound_from.ensures.bound c.bound_from.ensures.small;
    })
