use Rattle.std.proofs.lemmas.Result.{IfOk-weaker}
use Rattle.sc_app.specs.Answer.{status_of, text_of}
use Rattle.sc_app.proofs.Balls.{fan_told, stopped_ball}
use Rattle.sc_app.proofs.ball.ball_between.Goals as goal

pub returns-in_ok-fan_text-in-Ok : goal.returns-in_ok-fan_text-in-Ok
returns-in_ok-fan_text-in-Ok c =
    fan_told c.args.pivots c.args.first.now c.args.second.now c.in-Ok.fan c.in_ok-fan_text-in-Ok.field-0.items c.requires.first_balanced c.requires.second_balanced
    c.requires.first_in_range c.requires.second_in_range c.in-Ok.ensures.first c.in-Ok.ensures.second c.in-Ok.ensures.fan
    (c.in-Ok.ensures.readable c.requires.first_in_range c.requires.second_in_range) c.in_ok-fan_text-in-Ok.ensures

pub returns-in-Err : goal.returns-in-Err
returns-in-Err c =
    IfOk-weaker c.stopped.result _ _
    (λ answer shows. stopped_ball c.args.pivots c.args.first.now c.args.second.now c.in-Err.fault (status_of answer) (text_of answer) c.requires.first_balanced c.requires.second_balanced shows)
    (c.stopped.ensures c.args.pivots c.in-Err.ensures.stopped)
