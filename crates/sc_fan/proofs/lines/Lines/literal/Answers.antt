use Rattle.std.proofs.lemmas.Result.{err_from_is_err_and}
use Rattle.sc_line.specs.declared.fault.LineFault.TheVariants.{Malformed}
use Rattle.sc_fan.proofs.ReadingLaws.{literal_taken, literal_fails, literal_ends}
use Rattle.sc_fan.proofs.lines.Lines.literal.Goals as goal

pub returns-in_err-number : goal.returns-in_err-number
returns-in_err-number c =
    let p = err_from_is_err_and c.from_residual.result c.from_residual.ensures.1 in
    rw (p.1, p.2) (literal_ends c.args.text.now c.args.self.now c.in_err-number.field-0.0 c.in_err-number.ensures.err)

pub returns-in-Ok : goal.returns-in-Ok
returns-in-Ok c = literal_taken c.args.text.now c.args.self.now c.next.new.self c.in_ok-number.number c.in_ok-number.line.now c.in_ok-number.ensures.ok c.in-Ok.ensures.ok

pub returns-in-Err : goal.returns-in-Err
returns-in-Err c = literal_fails c.args.text.now c.args.self.now c.next.new.self c.in_ok-number.number c.in_ok-number.line.now (Malformed c.in-Err.kind) c.in_ok-number.ensures.ok c.in-Err.ensures.err
