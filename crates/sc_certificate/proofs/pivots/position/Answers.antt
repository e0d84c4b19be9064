use Rattle.std.proofs.Common.{refl}
use Rattle.std.proofs.lemmas.Result.{err_from_is_err_and}
use Rattle.sc_line.proofs.LineLaws.{told_is}
use Rattle.sc_certificate.proofs.PivotLaws.{no_position, far_position}
use Rattle.sc_certificate.proofs.pivots.position.Goals as goal

pub returns-in_err-number_of-clause-err : goal.returns-in_err-number_of-clause-err
returns-in_err-number_of-clause-err c =
    let h = c.in_err-number_of.ensures.err in
    let p = err_from_is_err_and c.from_residual.result c.from_residual.ensures.1 in
    rw (p.1, p.2) (h.0, no_position c.args.field.now h.1)

pub returns-in-Ok-clause-ok : goal.returns-in-Ok-clause-ok
returns-in-Ok-clause-ok c = told_is c.args.field.now _ _ c.in_ok-number_of.ensures.ok c.in-Ok.ensures.ok.0

pub returns-in-Err-clause-err : goal.returns-in-Err-clause-err
returns-in-Err-clause-err c = (refl, far_position c.args.field.now _ c.in_ok-number_of.ensures.ok c.in-Err.ensures.err.1)
