use Rattle.std.proofs.Common.{◌≡◌, ◌∙◌, [], ◌∷◌, codes, Some, None, sym, ap}
use Rattle.std.proofs.lemmas.Result.{err_from_is_err_and}
use Rattle.sc_whole.specs.Spelling.{spelling}
use Rattle.sc_text.specs.ValueLines.{quotient_of}
use Rattle.sc_line.specs.Lines.{fields}
use Rattle.sc_line.proofs.LineLaws.{line_from_fields, narrowed_is, number_of_is}
use Rattle.sc_text.proofs.ValueLaws.{good_fraction}
use Rattle.sc_fan.specs.declared.limits.TheConstants.{MAX_VALUE}
use Rattle.sc_fan.specs.Corners.{corner_value_fault}
use Rattle.sc_fan.proofs.CornerLaws.{direction_from_test, direction_outside, value_bad}
use Rattle.sc_fan.proofs.corners.corner_line.Goals as goal

pub returns-in_err-value-clause-err : goal.returns-in_err-value-clause-err
returns-in_err-value-clause-err c =
    let p = err_from_is_err_and c.from_residual-in_err-value.result c.from_residual-in_err-value.ensures.1 in
    let s = c.in_ok-s.ensures.ok in
    let t = c.in_ok-t.ensures.ok in
    let all : fields c.args.line.now ≡ codes "corner" ∷ s.field ∷ t.field ∷ c.in-Some.field.now ∷ [] =
    cc (c.of-fields.ensures, c.in_ok-name.ensures.ok, s.taken, t.taken, c.in-Some.ensures.some, c.in_ok-end.ensures.ok) in
    rw (p.1, p.2) (value_bad c.args.line.now s.field t.field c.in-Some.field.now s.value t.value _ all s.spells t.spells c.in_err-value.ensures.err)

pub returns-in_err-direction-clause-err : goal.returns-in_err-direction-clause-err
returns-in_err-direction-clause-err c =
    let p = err_from_is_err_and c.from_residual-in_err-direction.result c.from_residual-in_err-direction.ensures.1 in
    let s = c.in_ok-s.ensures.ok in
    let t = c.in_ok-t.ensures.ok in
    let value = c.in_ok-value.value in
    let all : fields c.args.line.now ≡ codes "corner" ∷ s.field ∷ t.field ∷ c.in-Some.field.now ∷ [] =
    cc (c.of-fields.ensures, c.in_ok-name.ensures.ok, s.taken, t.taken, c.in-Some.ensures.some, c.in_ok-end.ensures.ok) in
    let good : corner_value_fault c.in-Some.field.now ≡ None = ap corner_value_fault c.in_ok-value.ensures.ok.0 ∙ good_fraction MAX_VALUE (quotient_of value) c.in_ok-value.ensures.ok.1 in
    let outside = c.in_err-direction.ensures.err.1 s.value t.value s.narrowed t.narrowed in
    rw (p.1, p.2) (direction_outside c.args.line.now s.field t.field c.in-Some.field.now s.value t.value all s.spells t.spells good outside ∙ ap Some (sym c.in_err-direction.ensures.err.0))

pub returns-clause-ok : goal.returns-clause-ok
returns-clause-ok c =
    let s = c.in_ok-s.ensures.ok in
    let t = c.in_ok-t.ensures.ok in
    let d = c.in_ok-direction.direction in
    let ok = c.in_ok-direction.ensures.ok in
    let value = c.in_ok-value.value in
    let all : fields c.args.line.now ≡ codes "corner" ∷ s.field ∷ t.field ∷ c.in-Some.field.now ∷ [] =
    cc (c.of-fields.ensures, c.in_ok-name.ensures.ok, s.taken, t.taken, c.in-Some.ensures.some, c.in_ok-end.ensures.ok) in
    let s_is = number_of_is s.field s.value s.spells ∙ ap spelling (narrowed_is s.value d.s c.in_ok-s.s s.narrowed ok.0) in
    let t_is = number_of_is t.field t.value t.spells ∙ ap spelling (narrowed_is t.value d.t c.in_ok-t.t t.narrowed ok.1) in
    let direction = direction_from_test d.s d.t ok.2 in (
      line_from_fields c.args.line.now _ (all ∙ (λ i. codes "corner" ∷ s_is i ∷ t_is i ∷ c.in_ok-value.ensures.ok.0 i ∷ [])),
      record {
        s_low = direction.s_low;
        s_high = direction.s_high;
        t_low = direction.t_low;
        t_high = direction.t_high;
        somewhere = direction.somewhere;
        value = c.in_ok-value.ensures.ok.1;
      },
    )
