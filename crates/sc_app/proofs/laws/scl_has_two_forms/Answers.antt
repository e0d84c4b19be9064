use Rattle.sc_app.proofs.Forms.{scl_forms}
use Rattle.sc_app.proofs.laws.scl_has_two_forms.Goals as goal

pub returns : goal.returns
returns c = λ n words. scl_forms n words
