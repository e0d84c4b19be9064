use Rattle.std.proofs.Common.{◌≤◌, length, arith}
use Rattle.sc_app.specs.Kinds.{kind_of}
use Rattle.sc_app.proofs.Serving.{ends_along_slice, read_whole}
use Rattle.sc_app.proofs.program.serve_input.Goals as goal

pub returns-in-Ok-clause-read : goal.returns-in-Ok-clause-read
returns-in-Ok-clause-read g c =
    let within : length c.in-Ok.input.items ≤ c.args.limit = omega (arith, c.in-Ok.ensures.within, c.in-Ok.input.ok.0) in
    read_whole (kind_of c.answer_input.result) c.args.limit (g.S.Source.left c.args.source.now) (g.S.Source.left c.read_all.new.source) c.in-Ok.input.items
    c.in-Ok.ensures.whole c.in-Ok.ensures.ended within c.answer_input.ensures.read

pub returns-in-Ok-clause-answer : goal.returns-in-Ok-clause-answer
returns-in-Ok-clause-answer g c =
    ends_along_slice (kind_of c.answer_input.result) c.args.command (g.S.Source.left c.args.source.now) c.in-Ok.input.items c.as_slice.result.now _ _ (g.O.Sink.taken c.args.out.now)
    (g.O.Sink.taken c.answer_input.new.out) c.answer_input.result c.as_slice.ensures.value c.in-Ok.ensures.whole c.answer_input.ensures.answer
