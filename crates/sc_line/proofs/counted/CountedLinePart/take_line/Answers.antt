use Rattle.std.proofs.Common.{List, subst}
use Rattle.std.proofs.lemmas.Result.{err_from_is_err_and}
use Rattle.sc_line.specs.LineFaults.{IsFault}
use Rattle.sc_line.specs.Forms.{Tells}
use Rattle.sc_line.proofs.PartLaws.{item_steps, item_fault}
use Rattle.sc_line.proofs.counted.CountedLinePart.take_line.Goals as goal

pub returns-in_err-value-in-Some-clause-err : goal.returns-in_err-value-in-Some-clause-err
returns-in_err-value-in-Some-clause-err g c =
    let r = c.args.self.now in
    let kind = g.K.LineItem.kind r.kind c.args.context.now in
    let p = err_from_is_err_and c.from_residual-in_err-value-in-Some.result c.from_residual-in_err-value-in-Some.ensures.1 in
    rw (p.1, p.2)
    (item_fault r.name.now r.most kind r.count c.in-Some.field-0 r.values.items c.args.line.now c.in_err-value-in-Some.field-0.0 c.in-Some.is c.requires
    (subst (λ (xs : List _). IsFault ((kind xs).fault c.args.line.now) c.in_err-value-in-Some.field-0.0) c.as_slice.ensures.value c.in_err-value-in-Some.ensures.err))

pub returns-in_ok-push-in-Some-clause-ok : goal.returns-in_ok-push-in-Some-clause-ok
returns-in_ok-push-in-Some-clause-ok g c =
    let r = c.args.self.now in
    let kind = g.K.LineItem.kind r.kind c.args.context.now in
    item_steps r.name.now r.most kind r.count c.in-Some.field-0 r.values.items c.push.new.self.items c.args.line.now c.in_ok-value-in-Some.value c.in-Some.is c.requires c.in_ok-push-in-Some.ensures.items
    (subst (λ (xs : List _). Tells (kind xs) c.args.line.now c.in_ok-value-in-Some.value) c.as_slice.ensures.value c.in_ok-value-in-Some.ensures.ok)
