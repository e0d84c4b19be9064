use Rattle.sc_app.proofs.Forms.{ball_forms}
use Rattle.sc_app.proofs.laws.ball_has_two_forms.Goals as goal

pub returns : goal.returns
returns c = λ n words. ball_forms n words
