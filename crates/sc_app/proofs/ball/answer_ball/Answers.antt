use Rattle.std.proofs.Common.{All, Err, ap, ◌∙◌, subst, sym}
use Rattle.std.proofs.lemmas.List.Elements.{All-append}
use Rattle.std.proofs.lemmas.Result.{IfOk-weaker}
use Rattle.sc_words.specs.ChainText.{IsRawLine}
use Rattle.sc_app.specs.Answer.{status_of, text_of}
use Rattle.sc_app.proofs.Balls.{fault_told, lines_told}
use Rattle.sc_app.proofs.ball.answer_ball.Goals as goal

pub returns-in-Err : goal.returns-in-Err
returns-in-Err c =
    IfOk-weaker c.to_fault.result _ _
    (λ answer told. fault_told c.args.pivots c.args.input.now c.in-Err.fault answer (λ at kind is. c.in-Err.ensures.malformed at kind (ap Err is)) told) c.to_fault.ensures

pub answer_lines-requires-clause-ranges : goal.answer_lines-requires-clause-ranges
answer_lines-requires-clause-ranges c =
    subst (All IsRawLine) (sym (c.as_slice.ensures.value ∙ c.in_ok-append.ensures.items))
    (All-append IsRawLine c.in-Ok.two.0.items c.in-Ok.two.1.items c.in-Ok.ensures.ranges.0 c.in-Ok.ensures.ranges.1)

pub returns : goal.returns
returns c =
    IfOk-weaker c.answer_lines.result _ _
    (λ answer h. lines_told c.args.pivots c.args.input.now c.in-Ok.two.0.items c.in-Ok.two.1.items c.as_slice.result.now c.len-count.result c.in-Ok.ensures.ok
    (c.as_slice.ensures.value ∙ c.in_ok-append.ensures.items) (c.len-count.ensures ∙ c.in-Ok.two.0.ok.0) (status_of answer) (text_of answer) h) c.answer_lines.ensures
