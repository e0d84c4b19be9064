use Rattle.std.proofs.lemmas.Result.{err_from_is_err_and}
use Rattle.sc_fan.proofs.ReadingLaws.{one_taken, one_fails, one_ends}
use Rattle.sc_fan.proofs.lines.Lines.item.Goals as goal

pub returns-in_err-number : goal.returns-in_err-number
returns-in_err-number g c =
    let kind = g.K.NumberedItem.kind c.args.kind.now c.args.context.now c.args.before.now in
    let p = err_from_is_err_and c.from_residual.result c.from_residual.ensures.1 in
    rw (p.1, p.2) (one_ends kind c.args.self.now c.in_err-number.field-0.0 c.in_err-number.ensures.err)

pub returns-in-Ok : goal.returns-in-Ok
returns-in-Ok g c =
    let kind = g.K.NumberedItem.kind c.args.kind.now c.args.context.now c.args.before.now in
    one_taken kind c.args.self.now c.next.new.self c.in_ok-number.number c.in_ok-number.line.now c.in-Ok.value c.in_ok-number.ensures.ok c.in-Ok.ensures.ok

pub returns-in-Err : goal.returns-in-Err
returns-in-Err g c =
    let kind = g.K.NumberedItem.kind c.args.kind.now c.args.context.now c.args.before.now in
    rw c.at_line.ensures (one_fails kind c.args.self.now c.next.new.self c.in_ok-number.number c.in_ok-number.line.now c.in-Err.fault c.in_ok-number.ensures.ok c.in-Err.ensures.err)
