use Rattle.std.proofs.Common.{refl}
use Rattle.sc_app.specs.declared.status.Status.TheVariants.{Done, Budget, Wide, Sides}
use Rattle.sc_app.specs.declared.command.Command.TheVariants.{Check, Scl, Ball, Generate}
use Rattle.sc_app.proofs.Calls as calls
use Rattle.sc_app.proofs.Least.{least, headline, solved, over_budget, too_wide, too_many_sides, ball_between, ball_stopped}
use Rattle.sc_app.proofs.program.run.Goals as goal

pub returns-clause-usage : goal.returns-clause-usage
returns-clause-usage g c = calls.usage _ _ _ _ _ _ _ _ _ _ c.serve_words-status.ensures.answer

pub returns-clause-unread : goal.returns-clause-unread
returns-clause-unread g c = calls.unread _ _ _ _ _ _ _ _ _ _ c.serve_words-status.ensures.answer

pub returns-clause-untouched : goal.returns-clause-untouched
returns-clause-untouched g c = calls.untouched _ _ _ _ _ _ _ _ _ _ c.serve_words-status.ensures.answer

pub returns-clause-read_past_limit : goal.returns-clause-read_past_limit
returns-clause-read_past_limit g c = calls.read_past_limit _ _ _ _ _ _ _ _ _ _ c.serve_words-status.ensures.answer

pub returns-clause-read_whole : goal.returns-clause-read_whole
returns-clause-read_whole g c = calls.read_whole _ _ _ _ _ _ _ _ _ _ c.serve_words-status.ensures.answer

pub returns-clause-read_within_limit : goal.returns-clause-read_within_limit
returns-clause-read_within_limit g c = calls.read_within_limit _ _ _ _ _ _ _ _ _ _ c.serve_words-status.ensures.answer

pub returns-clause-read_fault : goal.returns-clause-read_fault
returns-clause-read_fault g c = calls.read_fault _ _ _ _ _ _ _ _ _ _ c.serve_words-status.ensures.answer

pub returns-clause-write_fault : goal.returns-clause-write_fault
returns-clause-write_fault g c = calls.write_fault _ _ _ _ _ _ _ _ _ _ c.serve_words-status.ensures.answer

pub returns-clause-answered : goal.returns-clause-answered
returns-clause-answered g c = calls.answered _ _ _ _ _ _ _ _ _ _ c.serve_words-status.ensures.answer

pub returns-clause-complete : goal.returns-clause-complete
returns-clause-complete g c = calls.complete _ _ _ _ _ _ _ _ _ _ c.serve_words-status.ensures.answer

pub returns-clause-completed : goal.returns-clause-completed
returns-clause-completed g c = calls.completed _ _ _ _ _ _ _ _ _ _ c.serve_words-status.ensures.answer

pub returns-clause-broken : goal.returns-clause-broken
returns-clause-broken g c = calls.broken _ _ _ _ _ _ _ _ _ _ c.serve_words-status.ensures.answer

pub returns-clause-quiet : goal.returns-clause-quiet
returns-clause-quiet g c = calls.quiet _ _ _ _ _ _ _ _ _ _ c.serve_words-status.ensures.answer

pub returns-clause-least : goal.returns-clause-least
returns-clause-least g c = λ e form.
    least (g.S.Source.left c.args.source.now) (g.O.Sink.taken c.args.out.now) (g.O.Sink.taken c.serve_words-status.new.out)
    (calls.told _ _ _ _ _ _ _ _ _ _ c.serve_words-status.ensures.answer Check Done form refl e)

pub returns-clause-scl : goal.returns-clause-scl
returns-clause-scl g c = λ e n form.
    headline n (g.S.Source.left c.args.source.now) (g.O.Sink.taken c.args.out.now) (g.O.Sink.taken c.serve_words-status.new.out)
    (calls.told _ _ _ _ _ _ _ _ _ _ c.serve_words-status.ensures.answer (Scl n) Done form refl e)

pub returns-clause-solution : goal.returns-clause-solution
returns-clause-solution g c = λ e n form.
    solved n (g.S.Source.left c.args.source.now) (g.O.Sink.taken c.args.out.now) (g.O.Sink.taken c.serve_words-status.new.out)
    (calls.told _ _ _ _ _ _ _ _ _ _ c.serve_words-status.ensures.answer (Scl n) Done form refl e)

pub returns-clause-budget : goal.returns-clause-budget
returns-clause-budget g c = λ e n form.
    over_budget n (g.S.Source.left c.args.source.now) (g.O.Sink.taken c.args.out.now) (g.O.Sink.taken c.serve_words-status.new.out)
    (calls.told _ _ _ _ _ _ _ _ _ _ c.serve_words-status.ensures.answer (Scl n) Budget form refl e)

pub returns-clause-wide : goal.returns-clause-wide
returns-clause-wide g c = λ e n form.
    too_wide n (g.S.Source.left c.args.source.now) (g.O.Sink.taken c.args.out.now) (g.O.Sink.taken c.serve_words-status.new.out)
    (calls.told _ _ _ _ _ _ _ _ _ _ c.serve_words-status.ensures.answer (Scl n) Wide form refl e)

pub returns-clause-sides : goal.returns-clause-sides
returns-clause-sides g c = λ e n form.
    too_many_sides n (g.S.Source.left c.args.source.now) (g.O.Sink.taken c.args.out.now) (g.O.Sink.taken c.serve_words-status.new.out)
    (calls.told _ _ _ _ _ _ _ _ _ _ c.serve_words-status.ensures.answer (Scl n) Sides form refl e)

pub returns-clause-generated : goal.returns-clause-generated
returns-clause-generated g c = λ seed letters form decided. calls.answer_of _ _ _ _ _ _ _ _ _ _ c.serve_words-status.ensures.answer (Generate seed letters) form decided

pub returns-clause-ball : goal.returns-clause-ball
returns-clause-ball g c = λ e n form.
    ball_between n (g.S.Source.left c.args.source.now) (g.O.Sink.taken c.args.out.now) (g.O.Sink.taken c.serve_words-status.new.out)
    (calls.told _ _ _ _ _ _ _ _ _ _ c.serve_words-status.ensures.answer (Ball n) Done form refl e)

pub returns-clause-ball_budget : goal.returns-clause-ball_budget
returns-clause-ball_budget g c = λ e n form.
    ball_stopped n Budget (g.S.Source.left c.args.source.now) (g.O.Sink.taken c.args.out.now) (g.O.Sink.taken c.serve_words-status.new.out) tt
    (calls.told _ _ _ _ _ _ _ _ _ _ c.serve_words-status.ensures.answer (Ball n) Budget form refl e)

pub returns-clause-ball_wide : goal.returns-clause-ball_wide
returns-clause-ball_wide g c = λ e n form.
    ball_stopped n Wide (g.S.Source.left c.args.source.now) (g.O.Sink.taken c.args.out.now) (g.O.Sink.taken c.serve_words-status.new.out) tt
    (calls.told _ _ _ _ _ _ _ _ _ _ c.serve_words-status.ensures.answer (Ball n) Wide form refl e)

pub returns-clause-ball_sides : goal.returns-clause-ball_sides
returns-clause-ball_sides g c = λ e n form.
    ball_stopped n Sides (g.S.Source.left c.args.source.now) (g.O.Sink.taken c.args.out.now) (g.O.Sink.taken c.serve_words-status.new.out) tt
    (calls.told _ _ _ _ _ _ _ _ _ _ c.serve_words-status.ensures.answer (Ball n) Sides form refl e)
