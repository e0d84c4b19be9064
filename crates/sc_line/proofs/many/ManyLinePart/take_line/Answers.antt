use Rattle.std.proofs.Common.{◌<◌, List, length, subst, sym}
use Rattle.std.proofs.lemmas.Result.{err_from_is_err_and}
use Rattle.sc_line.specs.LineFaults.{IsFault}
use Rattle.sc_line.specs.Forms.{Tells}
use Rattle.sc_line.proofs.PartLaws.{many_some, many_steps, many_fault}
use Rattle.sc_line.proofs.many.ManyLinePart.take_line.Goals as goal

pub returns-in_err-value-clause-err : goal.returns-in_err-value-clause-err
returns-in_err-value-clause-err g c =
    let r = c.args.self.now in
    let kind = g.K.NumberedItem.kind r.kind c.args.context.now in
    let count = g.K.NumberedItem.count_of r.kind c.args.context.now in
    let p = err_from_is_err_and c.from_residual.result c.from_residual.ensures.1 in
    rw (p.1, p.2)
    (many_fault kind count r.values.items c.args.line.now c.in_err-value.field-0.0 c.requires
    (subst (λ (xs : List _). IsFault ((kind xs).fault c.args.line.now) c.in_err-value.field-0.0) c.as_slice.ensures.value c.in_err-value.ensures.err))

pub returns-clause-ok : goal.returns-clause-ok
returns-clause-ok g c =
    let r = c.args.self.now in
    let kind = g.K.NumberedItem.kind r.kind c.args.context.now in
    let count = g.K.NumberedItem.count_of r.kind c.args.context.now in
    many_steps kind count r.values.items c.push.new.self.items c.args.line.now c.in_ok-value.value c.requires c.in_ok-push.ensures.items
    (subst (λ (xs : List _). Tells (kind xs) c.args.line.now c.in_ok-value.value) c.as_slice.ensures.value c.in_ok-value.ensures.ok)

pub read-requires : goal.read-requires
read-requires g c =
    let r = c.args.self.now in
    let kind = g.K.NumberedItem.kind r.kind c.args.context.now in
    let count = g.K.NumberedItem.count_of r.kind c.args.context.now in
    subst (λ (xs : List _). length xs < count) (sym c.as_slice.ensures.value) (many_some kind count r.values.items c.requires)
