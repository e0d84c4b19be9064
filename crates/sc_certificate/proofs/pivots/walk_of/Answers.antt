use Rattle.std.proofs.Common.{◌≡◌, ◌++◌, ◌∷◌, List, map, pos, ap, ◌∙◌, arith}
use Rattle.std.proofs.lemmas.Result.{err_from_is_err_and}
use Rattle.sc_whole.specs.Spelling.{spelling}
use Rattle.sc_line.specs.Lines.{Field}
use Rattle.sc_certificate.proofs.PivotLaws.{bad_field, field_too_many}
use Rattle.sc_certificate.proofs.pivots.walk_of.Goals as goal

pub returns-in_err-position-clause-err : goal.returns-in_err-position-clause-err
returns-in_err-position-clause-err c = λ ch few.
    let p = err_from_is_err_and c.from_residual.result c.from_residual.ensures.1 in
    let h = c.in_err-position.ensures.err in
    let walk = c.loop-field.walk.items in
    let all : c.args.fields ≡ map (λ i. spelling (pos i)) walk ++ c.in-Some.field.now ∷ c.next.new.self =
    c.loop-field.invariant.0 ∙ ap (λ (fs : List Field). map (λ i. spelling (pos i)) walk ++ fs) c.in-Some.ensures.some in
    rw (p.1, p.2, h.0) (bad_field ch c.args.fields walk c.in-Some.field.now c.next.new.self few all h.1)

pub returns-then-len-eq-MAX_POSITIONS-clause-err : goal.returns-then-len-eq-MAX_POSITIONS-clause-err
returns-then-len-eq-MAX_POSITIONS-clause-err c = λ ch few.
    let walk = c.loop-field.walk.items in
    let all : c.args.fields ≡ map (λ i. spelling (pos i)) walk ++ c.in-Some.field.now ∷ c.next.new.self =
    c.loop-field.invariant.0 ∙ ap (λ (fs : List Field). map (λ i. spelling (pos i)) walk ++ fs) c.in-Some.ensures.some in
    field_too_many ch c.args.fields walk c.in-Some.field.now c.next.new.self few all (omega (arith, c.if-len-eq-MAX_POSITIONS.true, c.len.ensures, c.loop-field.walk.ok.0))
