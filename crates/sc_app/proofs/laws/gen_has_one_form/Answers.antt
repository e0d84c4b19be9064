use Rattle.sc_app.proofs.Forms.{generate_form}
use Rattle.sc_app.proofs.laws.gen_has_one_form.Goals as goal

pub returns : goal.returns
returns c = λ seed letters words. generate_form seed letters words
