use Rattle.std.proofs.lemmas.Result.{err_from_is_err_and}
use Rattle.sc_line.specs.declared.fault.LineFault.TheVariants.{Malformed}
use Rattle.sc_line.proofs.NumberLaws.{tells_value}
use Rattle.sc_fan.specs.Corners.{corner_said, corner_fault, corner_of_line, corner_line, a_corner, IsCornerInRange}
use Rattle.sc_fan.proofs.CornerLaws.{corner_kind}
use Rattle.sc_fan.proofs.ReadingLaws.{one_taken, one_fails, one_ends}
use Rattle.sc_fan.proofs.lines.Lines.corner.Goals as goal

pub returns-in_err-number : goal.returns-in_err-number
returns-in_err-number c =
    let p = err_from_is_err_and c.from_residual.result c.from_residual.ensures.1 in
    rw (p.1, p.2) (one_ends a_corner c.args.self.now c.in_err-number.field-0.0 c.in_err-number.ensures.err)

pub returns-in-Ok : goal.returns-in-Ok
returns-in-Ok c =
    let corner = corner_said c.in-Ok.corner in
    let told = c.in-Ok.ensures.ok in
    one_taken a_corner c.args.self.now c.next.new.self c.in_ok-number.number c.in_ok-number.line.now corner c.in_ok-number.ensures.ok
    (tells_value corner_fault corner_of_line corner_line IsCornerInRange corner c.in_ok-number.line.now corner_kind told.0 told.1)

pub returns-in-Err : goal.returns-in-Err
returns-in-Err c = one_fails a_corner c.args.self.now c.next.new.self c.in_ok-number.number c.in_ok-number.line.now (Malformed c.in-Err.kind) c.in_ok-number.ensures.ok c.in-Err.ensures.err
