use Rattle.std.proofs.Common.{inr}
use Rattle.std.proofs.lemmas.Result.{IfOk-weaker}
use Rattle.sc_app.specs.Answer.{status_of, text_of}
use Rattle.sc_app.proofs.Reports.{stopped_value}
use Rattle.sc_app.proofs.scl.solve.Goals as goal

pub returns-in_ok-certificate_text-in-Ok : goal.returns-in_ok-certificate_text-in-Ok
returns-in_ok-certificate_text-in-Ok c =
    inr (record {
      balanced = c.requires.balanced;
      solution = c.in-Ok.solution;
      solves = c.in-Ok.ensures.solution;
      over = c.in-Ok.ensures.chain;
      conditions = c.in-Ok.ensures.conditions;
      in_range = c.in-Ok.ensures.readable c.requires.chain_in_range c.requires.few_pivots;
      text_is = c.in_ok-certificate_text-in-Ok.ensures;
    })

pub returns-in-Err : goal.returns-in-Err
returns-in-Err c =
    IfOk-weaker c.refused.result _ _
    (λ answer told. stopped_value c.args.pivots c.args.chain c.in-Err.fault (status_of answer) (text_of answer) c.requires.balanced c.in-Err.ensures.stopped told) c.refused.ensures
