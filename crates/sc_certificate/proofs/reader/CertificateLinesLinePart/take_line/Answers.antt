use Rattle.std.proofs.Common.{sym, ◌∙◌}
use Rattle.std.proofs.lemmas.Result.{err_from_is_err_and, on_ok_weaker, on_err_weaker, IfErr-weaker}
use Rattle.sc_certificate.specs.Fronts.{front_at}
use Rattle.sc_certificate.proofs.LineLaws.{body_told, body_steps, body_fault, body_same, front_steps, front_fault, front_same, value_steps, value_refused}
use Rattle.sc_certificate.proofs.reader.CertificateLinesLinePart.take_line.Goals as goal

pub take_line-requires : goal.take_line-requires
take_line-requires c = sym (body_told (front_at c.args.self.now.front) c.args.self.now.head c.in-Some.head c.in-Some.is _) ∙ c.requires

pub returns-in-Some-clause-ok : goal.returns-in-Some-clause-ok
returns-in-Some-clause-ok c =
    on_ok_weaker c.take_line.result (body_steps (front_at c.args.self.now.front) c.args.self.now.head c.in-Some.head c.in-Some.is _ _ c.args.line.now) c.take_line.ensures.ok

pub returns-in-Some-clause-err : goal.returns-in-Some-clause-err
returns-in-Some-clause-err c =
    let r = c.args.self.now in
    let due = sym (body_told (front_at r.front) r.head c.in-Some.head c.in-Some.is _) ∙ c.requires in
    IfErr-weaker c.take_line.result _ _ (λ e bad. body_fault (front_at r.front) r.head c.in-Some.head c.in-Some.is _ c.args.line.now e due bad) c.take_line.ensures.err

pub returns-in-Some-clause-unchanged : goal.returns-in-Some-clause-unchanged
returns-in-Some-clause-unchanged c =
    on_err_weaker c.take_line.result (body_same (front_at c.args.self.now.front) c.args.self.now.head c.in-Some.head c.in-Some.is _ _) c.take_line.ensures.unchanged

pub returns-then-not-is_whole-clause-ok : goal.returns-then-not-is_whole-clause-ok
returns-then-not-is_whole-clause-ok c =
    let r = c.args.self.now in
    on_ok_weaker c.take_line-then-not-is_whole.result (front_steps r.head c.in-None.is _ (front_at r.front) (front_at c.take_line-then-not-is_whole.new.self) c.args.line.now) c.take_line-then-not-is_whole.ensures.ok

pub returns-then-not-is_whole-clause-err : goal.returns-then-not-is_whole-clause-err
returns-then-not-is_whole-clause-err c =
    let r = c.args.self.now in
    let due = sym c.is_whole.ensures ∙ c.if-not-is_whole.true in
    IfErr-weaker c.take_line-then-not-is_whole.result _ _ (λ e bad. front_fault r.head c.in-None.is _ (front_at r.front) c.args.line.now e due bad) c.take_line-then-not-is_whole.ensures.err

pub returns-then-not-is_whole-clause-unchanged : goal.returns-then-not-is_whole-clause-unchanged
returns-then-not-is_whole-clause-unchanged c =
    let r = c.args.self.now in
    on_err_weaker c.take_line-then-not-is_whole.result (front_same r.head c.in-None.is _ (front_at r.front) (front_at c.take_line-then-not-is_whole.new.self)) c.take_line-then-not-is_whole.ensures.unchanged

pub returns-in_err-read-in-None-clause-err : goal.returns-in_err-read-in-None-clause-err
returns-in_err-read-in-None-clause-err c =
    let r = c.args.self.now in
    let p = err_from_is_err_and c.from_residual.result c.from_residual.ensures.1 in
    rw (p.1, p.2) (value_refused r.head c.in-None.is _ (front_at r.front) c.words.result.now c.args.line.now c.in_err-read-in-None.field-0.0 c.words.ensures.told c.in_err-read-in-None.ensures.err)

pub returns-in_ok-read-in-None-clause-ok : goal.returns-in_ok-read-in-None-clause-ok
returns-in_ok-read-in-None-clause-ok c =
    let r = c.args.self.now in
    let h = c.in_ok-read-in-None in
    value_steps r.head c.in-None.is _ (front_at r.front) (front_at c.new.result) c.words.result.now c.args.line.now h.field-0 c.words.ensures.told h.ensures.chain h.ensures.ok
