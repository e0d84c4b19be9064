use Rattle.std.proofs.Common.{◌≡◌, ◌*ℤ◌, ◌+ℤ◌, pos, unsigned_abs, FitsSigned, to_z-of_z, ap, ◌∙◌, rules}
use Rattle.std.specs.Int.{w128}
use Rattle.sc_theory.specs.Chains.{weighted_length}
use Rattle.sc_crossing.proofs.FormNumbers.{value_is, part_fits, parts_fit, first_light, second_light}
use Rattle.sc_crossing.proofs.tightness.list_number.Goals as goal

-- how often each chain is taken
first_times : (c : goal.After-form_number) → c.from.result ≡ pos (unsigned_abs c.args.direction.s)
first_times c = let size : c.unsigned_abs.result ≡ unsigned_abs c.args.direction.s = search rules in c.from.ensures ∙ ap pos size

first_again : (c : goal.After-form_number-2) → c.from.result ≡ pos (unsigned_abs c.args.direction.s)
first_again c = let size : c.unsigned_abs.result ≡ unsigned_abs c.args.direction.s = search rules in c.from.ensures ∙ ap pos size

second_times : (c : goal.After-form_number-2) → c.from-2.result ≡ pos (unsigned_abs c.args.direction.t)
second_times c = let size : c.unsigned_abs-2.result ≡ unsigned_abs c.args.direction.t = search rules in c.from-2.ensures ∙ ap pos size

first_part : (c : goal.After-form_number-2) → FitsSigned w128 (c.from.result *ℤ c.form_number.result)
first_part c =
    part_fits (unsigned_abs c.args.direction.s) (weighted_length c.args.first.now) c.from.result c.form_number.result (first_again c)
    (first_light (unsigned_abs c.args.direction.s) (weighted_length c.args.first.now) (unsigned_abs c.args.direction.t) (weighted_length c.args.second.now) c.requires)
    c.form_number.ensures.small

second_part : (c : goal.After-form_number-2) → FitsSigned w128 (c.from-2.result *ℤ c.form_number-2.result)
second_part c =
    part_fits (unsigned_abs c.args.direction.t) (weighted_length c.args.second.now) c.from-2.result c.form_number-2.result (second_times c)
    (second_light (unsigned_abs c.args.direction.s) (weighted_length c.args.first.now) (unsigned_abs c.args.direction.t) (weighted_length c.args.second.now) c.requires)
    c.form_number-2.ensures.small

whole : (c : goal.After-form_number-2) → FitsSigned w128 (c.from.result *ℤ c.form_number.result +ℤ c.from-2.result *ℤ c.form_number-2.result)
whole c =
    parts_fit (unsigned_abs c.args.direction.s) (weighted_length c.args.first.now) (unsigned_abs c.args.direction.t) (weighted_length c.args.second.now)
    c.from.result c.form_number.result c.from-2.result c.form_number-2.result (first_again c) (second_times c) c.requires
    c.form_number.ensures.small c.form_number-2.ensures.small

pub overflow_mul-result : goal.overflow_mul-result
overflow_mul-result c =
    let times : FitsSigned w128 c.from.result = search rules in
    let number : FitsSigned w128 c.form_number.result = search rules in
    simp (to_z-of_z times, to_z-of_z number)
    (part_fits (unsigned_abs c.args.direction.s) (weighted_length c.args.first.now) c.from.result c.form_number.result (first_times c)
    (first_light (unsigned_abs c.args.direction.s) (weighted_length c.args.first.now) (unsigned_abs c.args.direction.t) (weighted_length c.args.second.now) c.requires)
    c.form_number.ensures.small)

pub overflow_mul-result-2 : goal.overflow_mul-result-2
overflow_mul-result-2 c =
    let times : FitsSigned w128 c.from-2.result = search rules in
    let number : FitsSigned w128 c.form_number-2.result = search rules in
    simp (to_z-of_z times, to_z-of_z number) (second_part c)

pub overflow_add-result : goal.overflow_add-result
overflow_add-result c =
    let times : FitsSigned w128 c.from.result = search rules in
    let number : FitsSigned w128 c.form_number.result = search rules in
    let times_too : FitsSigned w128 c.from-2.result = search rules in
    let number_too : FitsSigned w128 c.form_number-2.result = search rules in
    simp (to_z-of_z times, to_z-of_z number, to_z-of_z times_too, to_z-of_z number_too, to_z-of_z (first_part c), to_z-of_z (second_part c)) (whole c)

pub returns : goal.returns
returns c =
    let times : FitsSigned w128 c.from.result = search rules in
    let number : FitsSigned w128 c.form_number.result = search rules in
    let times_too : FitsSigned w128 c.from-2.result = search rules in
    let number_too : FitsSigned w128 c.form_number-2.result = search rules in
    simp (to_z-of_z times, to_z-of_z number, to_z-of_z times_too, to_z-of_z number_too, to_z-of_z (first_part c), to_z-of_z (second_part c), to_z-of_z (whole c))
    (value_is c.args.first.now c.args.second.now c.args.list.now c.args.direction c.words.result c.from.result c.form_number.result c.from-2.result c.form_number-2.result
    (first_again c) (second_times c) c.words.ensures.words c.form_number.ensures.number c.form_number-2.ensures.number)
