use Rattle.sc_app.specs.Answer.{status_of, text_of}
use Rattle.sc_app.proofs.Serving.{needs_no_source, ends}
use Rattle.sc_app.proofs.program.answer_input.Goals as goal

pub returns-in-Ok-clause-read : goal.returns-in-Ok-clause-read
returns-in-Ok-clause-read g c =
    needs_no_source c.args.command _ (g.O.Sink.taken c.args.out.now) (g.O.Sink.taken c.deliver.new.out) c.args.input.now (text_of c.in-Ok.answer) (status_of c.in-Ok.answer) c.deliver.result
    c.in-Ok.ensures c.deliver.ensures

pub returns-in-Ok-clause-answer : goal.returns-in-Ok-clause-answer
returns-in-Ok-clause-answer g c =
    ends c.args.command _ (g.O.Sink.taken c.args.out.now) (g.O.Sink.taken c.deliver.new.out) c.args.input.now (text_of c.in-Ok.answer) (status_of c.in-Ok.answer) c.deliver.result
    c.requires.fits c.in-Ok.ensures c.deliver.ensures
