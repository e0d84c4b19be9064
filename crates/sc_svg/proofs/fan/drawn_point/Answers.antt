use Rattle.std.proofs.Common.{rules, to_z-of_z, FitsSigned, ◌≡◌, ◌-ℤ◌, pos, neg_ℤ, to_z, of_z, unsigned_abs, ap, ◌∙◌, arith}
use Rattle.std.specs.Int.{w64, w128}
use Rattle.std.proofs.lemmas.Int.{ints}
use Rattle.sc_svg.proofs.Fans.{small_product, point_is}
use Rattle.sc_svg.proofs.fan.drawn_point.Goals as goal

pub cut-requires-clause-small : goal.cut-requires-clause-small
cut-requires-clause-small c =
    let fits : FitsSigned w64 c.args.corner.s = search rules in
    let den : c.from.result ≡ unsigned_abs c.args.corner.den = search rules in
    rw (to_z-of_z fits, den) (small_product (unsigned_abs c.args.corner.s) (unsigned_abs c.args.corner.den) c.args.greatest.under c.args.corner.small_s c.args.corner.small_den c.requires.bounded.under)

pub cut-requires-2-clause-small : goal.cut-requires-2-clause-small
cut-requires-2-clause-small c =
    let fits : FitsSigned w64 c.args.corner.t = search rules in
    let den : c.from.result ≡ unsigned_abs c.args.corner.den = search rules in
    rw (to_z-of_z fits, den) (small_product (unsigned_abs c.args.corner.t) (unsigned_abs c.args.corner.den) c.args.greatest.under c.args.corner.small_t c.args.corner.small_den c.requires.bounded.under)

pub returns-clause-value : goal.returns-clause-value
returns-clause-value c =
    let s : FitsSigned w64 c.args.corner.s = search rules in
    let t : FitsSigned w64 c.args.corner.t = search rules in
    let den : c.from.result ≡ unsigned_abs c.args.corner.den = search rules in
    let num : c.from-2.result ≡ unsigned_abs c.args.corner.num = search rules in
    let x = simp (to_z-of_z s) at c.cut.ensures.value in
    let y = simp (to_z-of_z t) at c.cut-2.ensures.value in
    let wide_x : to_z w128 (of_z w128 c.cut.result) ≡ c.cut.result = omega (arith, ints, c.cut.ensures.small) in
    let wide_y : to_z w128 (of_z w128 (pos 0 -ℤ to_z w128 (of_z w128 c.cut-2.result))) ≡ neg_ℤ c.cut-2.result = omega (arith, ints, c.cut-2.ensures.small) in
    point_is c.args.greatest c.args.corner _ _ c.from.result c.from-2.result den num (wide_x ∙ x) (wide_y ∙ ap neg_ℤ y)
