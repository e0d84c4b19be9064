use Rattle.std.proofs.Common.{FitsSigned, to_z-of_z, rules}
use Rattle.std.specs.Int.{w128}
use Rattle.std.proofs.lemmas.Result.{err_from_is_err_and}
use Rattle.sc_line.specs.declared.fault.LineFault.TheVariants.{Malformed}
use Rattle.sc_line.proofs.NumberLaws.{tells_value}
use Rattle.sc_text.specs.PriceLines.{scale_line, scale_fault, scale_of_line, a_scale, IsScaleInRange}
use Rattle.sc_text.proofs.KindLaws.{scale_kind}
use Rattle.sc_fan.proofs.ReadingLaws.{one_taken, one_fails, one_ends}
use Rattle.sc_fan.proofs.lines.Lines.scale.Goals as goal

pub returns-in_err-number : goal.returns-in_err-number
returns-in_err-number c =
    let p = err_from_is_err_and c.from_residual.result c.from_residual.ensures.1 in
    rw (p.1, p.2) (one_ends a_scale c.args.self.now c.in_err-number.field-0.0 c.in_err-number.ensures.err)

pub returns-in-Ok : goal.returns-in-Ok
returns-in-Ok c =
    let d = c.in-Ok.scale in
    let fits : FitsSigned w128 d = search rules in
    let told = c.in-Ok.ensures.ok in
    simp (to_z-of_z fits)
    (one_taken a_scale c.args.self.now c.next.new.self c.in_ok-number.number c.in_ok-number.line.now d c.in_ok-number.ensures.ok
    (tells_value scale_fault scale_of_line scale_line IsScaleInRange d c.in_ok-number.line.now scale_kind told.0 told.1))

pub returns-in-Err : goal.returns-in-Err
returns-in-Err c = one_fails a_scale c.args.self.now c.next.new.self c.in_ok-number.number c.in_ok-number.line.now (Malformed c.in-Err.kind) c.in_ok-number.ensures.ok c.in-Err.ensures.err
