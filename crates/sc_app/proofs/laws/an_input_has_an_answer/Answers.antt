use Rattle.sc_app.proofs.SomeAnswer.{some_answer}
use Rattle.sc_app.proofs.laws.an_input_has_an_answer.Goals as goal

pub returns : goal.returns
returns c = λ words input command form one none. some_answer command input (one command form) (λ status text a. none status text (command, form, a))
