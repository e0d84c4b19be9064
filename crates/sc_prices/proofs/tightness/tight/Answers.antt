use Rattle.std.proofs.Common.{◌≡◌, ◌*ℤ◌, ◌∙◌, ℤ, pos, ap, sym, FitsSigned, to_z-of_z, rules}
use Rattle.std.specs.Int.{w128}
use Rattle.sc_theory.specs.Prices.{bound as bound_of}
use Rattle.sc_prices.proofs.Sizes.{scale_times_fits, copies_times_fits, same_held}
use Rattle.sc_prices.proofs.tightness.tight.Goals as goal

pub overflow_mul-result-2 : goal.overflow_mul-result-2
overflow_mul-result-2 c =
    let copies : FitsSigned w128 c.from-2.result = search rules in
    let bound : FitsSigned w128 c.bound.result = search rules in
    simp (to_z-of_z copies, to_z-of_z bound)
    (copies_times_fits c.args.chain.now c.args.n c.args.counts.now.vertices c.from-2.result c.bound.result c.requires.counts c.from-2.ensures c.bound.ensures.small)

pub returns : goal.returns
returns c =
    let scale : FitsSigned w128 c.scale.result = search rules in
    let vertices : FitsSigned w128 c.from.result = search rules in
    let copies : FitsSigned w128 c.from-2.result = search rules in
    let bound : FitsSigned w128 c.bound.result = search rules in
    let left : c.scale.result *ℤ c.from.result ≡ c.args.list.now.scale *ℤ pos c.args.counts.now.vertices =
    ap (λ (z : ℤ). z *ℤ c.from.result) c.scale.ensures.scale ∙ ap (λ (z : ℤ). c.args.list.now.scale *ℤ z) c.from.ensures in
    let right : c.from-2.result *ℤ c.bound.result ≡ pos c.args.n *ℤ bound_of c.args.chain.now c.args.list.now =
    ap (λ (z : ℤ). z *ℤ c.bound.result) c.from-2.ensures ∙ ap (λ (z : ℤ). pos c.args.n *ℤ z) c.bound.ensures.bound in
    let test =
    same_held (c.scale.result *ℤ c.from.result) (c.from-2.result *ℤ c.bound.result) (scale_times_fits c.scale.result c.from.result c.args.counts.now.vertices (search rules) c.from.ensures (search rules))
    (copies_times_fits c.args.chain.now c.args.n c.args.counts.now.vertices c.from-2.result c.bound.result c.requires.counts c.from-2.ensures c.bound.ensures.small) in
    simp (to_z-of_z scale, to_z-of_z vertices, to_z-of_z copies, to_z-of_z bound)
    (λ h. sym left ∙ test.0 h ∙ right, λ e. test.1 (left ∙ e ∙ sym right))
