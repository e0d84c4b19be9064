use Rattle.sc_app.proofs.OneAnswer.{one_answer, one_text_answer}
use Rattle.sc_app.proofs.laws.an_input_has_at_most_one_answer.Goals as goal

pub returns : goal.returns
returns c =
    record {
      status = λ words input text other status elsewise one a b. one_answer words input text other status elsewise one a b;
      text = λ words input text other status elsewise one a b. one_text_answer words input text other status elsewise one a b;
    }
