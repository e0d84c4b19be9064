use Rattle.std.proofs.Common.{rules}
use Rattle.std.proofs.lemmas.Result.{IfOk-weaker}
use Rattle.sc_app.specs.Answer.{status_of, text_of}
use Rattle.sc_app.proofs.Balls.{words_told, positions_told, within_told}
use Rattle.sc_app.proofs.ball.answer_lines.Goals as goal

pub returns-in-Ok : goal.returns-in-Ok
returns-in-Ok c =
    IfOk-weaker c.answer_within.result _ _
    (λ answer h. within_told c.args.pivots c.args.lines.now c.args.count c.in-Ok.ensures.within (status_of answer) (text_of answer) h) c.answer_within.ensures

pub returns-in-Err-ManyWords : goal.returns-in-Err-ManyWords
returns-in-Err-ManyWords c = words_told c.args.pivots c.args.lines.now c.args.count _ (search rules)

pub returns-in-Err-ManyPositions : goal.returns-in-Err-ManyPositions
returns-in-Err-ManyPositions c = positions_told c.args.pivots c.args.lines.now c.args.count _ (search rules)
