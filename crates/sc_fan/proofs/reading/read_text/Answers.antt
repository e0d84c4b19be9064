use Rattle.std.proofs.lemmas.Result.{err_from_is_err_and}
use Rattle.sc_fan.proofs.TextLaws.{read_stops, read_ends, read_goes_on}
use Rattle.sc_fan.proofs.reading.read_text.Goals as goal

pub returns-in_err-fan-clause-read : goal.returns-in_err-fan-clause-read
returns-in_err-fan-clause-read c =
    let p = err_from_is_err_and c.from_residual.result c.from_residual.ensures.1 in
    rw (p.1, p.2) (read_stops c.args.bytes.now c.of-lines.result c.of-lines.ensures c.in_err-fan.field-0.0 c.in_err-fan.ensures.told)

pub returns-in_err-end-clause-read : goal.returns-in_err-end-clause-read
returns-in_err-end-clause-read c =
    let p = err_from_is_err_and c.from_residual-in_err-end.result c.from_residual-in_err-end.ensures.1 in
    let end = c.in_err-end.ensures.err in
    rw (p.1, p.2) (read_goes_on c.args.bytes.now c.of-lines.result c.of-lines.ensures c.in_ok-fan.fan c.read_fan.new.lines c.in_ok-fan.ensures.told c.in_err-end.field-0.0 end.0 end.1)

pub returns-clause-read : goal.returns-clause-read
returns-clause-read c = read_ends c.args.bytes.now c.of-lines.result c.of-lines.ensures c.in_ok-fan.fan c.read_fan.new.lines c.in_ok-fan.ensures.told c.in_ok-end.ensures.ok
