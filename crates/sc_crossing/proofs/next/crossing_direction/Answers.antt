use Rattle.std.proofs.Common.{ℤ, pos, ◌<ℤ◌, ◌≤ℤ◌, unsigned_abs, FitsSigned, to_z-of_z, arith, sym, ap, subst, ◌∙◌, rules}
use Rattle.std.specs.Int.{w128}
use Rattle.std.proofs.lemmas.Int.{ints}
use Rattle.std.proofs.lemmas.Result.{err_from_is_err_and}
use Rattle.sc_theory.specs.Prices.{Prices}
use Rattle.sc_certificate.specs.Sizes.{IsSmallList}
use Rattle.sc_fraction.specs.Frac.{numerator}
use Rattle.sc_crossing.specs.Neighbours.{reached_of, direction_of}
use Rattle.sc_crossing.proofs.Neighbours.{first_forms_differ, crossing_above, crossing_next, refused_from}
use Rattle.sc_crossing.proofs.next.crossing_direction.Goals as goal

some_scale : (list : Prices) → IsSmallList list → pos 0 <ℤ list.scale
some_scale list small = omega (arith, ints, small.scale.low)

pub crossing-requires : goal.crossing-requires
crossing-requires c =
    first_forms_differ c.args.quadrant c.args.first.now c.args.second.now (reached_of c.args.from.now) (reached_of c.args.to.now) c.form_of-form.result c.form_of-other.result
    c.check_chain.ensures.chain c.check_chain-2.ensures.chain c.requires.gap c.form_of-form.ensures c.form_of-other.ensures
    (some_scale c.args.from.now.list c.check_list.ensures) (some_scale c.args.to.now.list c.check_list-2.ensures)

pub returns-in_err-quotient-clause-refused : goal.returns-in_err-quotient-clause-refused
returns-in_err-quotient-clause-refused c =
    let p = err_from_is_err_and c.from_residual.result c.from_residual.ensures.1 in
    rw (p.1, p.2)
    (refused_from c.args.quadrant c.args.first.now c.args.second.now (reached_of c.args.from.now) (reached_of c.args.to.now) c.form_of-form.result c.form_of-other.result
    c.in_err-quotient.field-0.0 c.requires.from c.requires.to c.form_of-form.ensures c.form_of-other.ensures c.in_err-quotient.ensures.refused)

pub direction_in-requires-clause-first : goal.direction_in-requires-clause-first
direction_in-requires-clause-first c =
    let num : FitsSigned w128 c.num.result = search rules in
    let above : pos 0 <ℤ numerator c.in_ok-quotient.quotient =
    crossing_above c.args.quadrant c.args.first.now c.args.second.now (reached_of c.args.from.now) (reached_of c.args.to.now) c.form_of-form.result c.form_of-other.result
    c.check_chain.ensures.chain c.check_chain-2.ensures.chain c.requires.gap c.form_of-form.ensures c.form_of-other.ensures
    (some_scale c.args.from.now.list c.check_list.ensures) (some_scale c.args.to.now.list c.check_list-2.ensures)
    c.in_ok-quotient.quotient c.in_ok-quotient.ensures.crossing in
    simp (to_z-of_z num) (subst (λ (z : ℤ). pos 0 ≤ℤ z) (sym c.num.ensures) (omega (arith, ints, above)))

pub direction_in-requires-clause-second : goal.direction_in-requires-clause-second
direction_in-requires-clause-second c =
    let den : FitsSigned w128 c.den.result = search rules in
    simp (to_z-of_z den) (omega (arith, ints, c.den.ensures.positive))

pub returns-clause-next : goal.returns-clause-next
returns-clause-next c =
    let num : FitsSigned w128 c.num.result = search rules in
    let den : FitsSigned w128 c.den.result = search rules in
    crossing_next c.args.quadrant c.args.first.now c.args.second.now (reached_of c.args.from.now) (reached_of c.args.to.now) c.form_of-form.result c.form_of-other.result
    c.check_chain.ensures.chain c.check_chain-2.ensures.chain c.requires.gap c.form_of-form.ensures c.form_of-other.ensures
    (some_scale c.args.from.now.list c.check_list.ensures) (some_scale c.args.to.now.list c.check_list-2.ensures)
    c.in_ok-quotient.quotient c.in_ok-quotient.ensures.crossing (direction_of c.direction_in.result) c.direction_in.ensures.within
    (c.direction_in.ensures.first ∙ to_z-of_z num ∙ c.num.ensures)
    (c.direction_in.ensures.second ∙ ap unsigned_abs (to_z-of_z den ∙ c.den.ensures.value))
    c.requires.from c.requires.to
