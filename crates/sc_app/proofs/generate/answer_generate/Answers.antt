use Rattle.std.proofs.lemmas.Result.{IfOk-weaker}
use Rattle.sc_app.specs.Answer.{status_of, text_of}
use Rattle.sc_app.proofs.Reports.{summarized, stopped_generation}
use Rattle.sc_app.proofs.generate.answer_generate.Goals as goal

pub returns-in-Ok : goal.returns-in-Ok
returns-in-Ok c =
    summarized c.args.seed c.args.letters c.in_ok-chain.chain c.in-Ok.solution c.in_ok-summary-in-Ok.field-0.items c.in_ok-chain.ensures.chain c.in-Ok.ensures.solution c.in-Ok.ensures.least
    c.in_ok-summary-in-Ok.ensures

pub returns : goal.returns
returns c =
    IfOk-weaker c.refused.result _ _
    (λ answer told. stopped_generation c.args.seed c.args.letters c.in_ok-chain.chain c.in-Err.fault (status_of answer) (text_of answer) c.in_ok-chain.ensures.chain c.in_ok-chain.ensures.balanced
    c.in-Err.ensures.stopped told) c.refused.ensures
