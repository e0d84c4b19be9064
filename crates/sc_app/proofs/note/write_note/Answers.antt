use Rattle.std.proofs.Common.{◌++◌, subst}
use Rattle.std.proofs.lemmas.Result.{err_from_is_err_and, on_err_weaker}
use Rattle.sc_outside.specs.Told.{TookPart}
use Rattle.sc_outside.proofs.Bytes.{Took-trans, TookPart-after}
use Rattle.sc_app.specs.Notes.{number_text}
use Rattle.sc_app.proofs.Taken.{part_before}
use Rattle.sc_app.proofs.note.write_note.Goals as goal

pub returns-in_err-write_number-clause-part : goal.returns-in_err-write_number-clause-part
returns-in_err-write_number-clause-part g c =
    let note = c.note_of_status-note.result in
    let p = err_from_is_err_and c.from_residual-in_err-write_number.result c.from_residual-in_err-write_number.ensures.1 in
    rw p.1 (subst (TookPart (g.E.Sink.taken c.args.notes.now) (g.E.Sink.taken c.write_number.new.notes)) c.note_of_status-note.ensures
    (part_before _ _ (note.before.now ++ number_text note.number) note.after.now
    (TookPart-after _ (g.E.Sink.taken c.write_all.new.sink) _ note.before.now (number_text note.number) c.in_ok-write_all.ensures.all c.in_err-write_number.ensures.part)))

pub returns-clause-part : goal.returns-clause-part
returns-clause-part g c =
    let note = c.note_of_status-note.result in
    on_err_weaker c.write_all-2.result (λ part. subst (TookPart (g.E.Sink.taken c.args.notes.now) (g.E.Sink.taken c.write_all-2.new.sink)) c.note_of_status-note.ensures
    (TookPart-after _ (g.E.Sink.taken c.write_number.new.notes) _ (note.before.now ++ number_text note.number) note.after.now
    (Took-trans _ (g.E.Sink.taken c.write_all.new.sink) _ note.before.now (number_text note.number) c.in_ok-write_all.ensures.all c.in_ok-write_number.ensures.all) part))
    c.write_all-2.ensures.part
