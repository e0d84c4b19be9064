use Rattle.sc_theory.proofs.VertexLaws.{cost_not_negative}
use Rattle.sc_theory.proofs.fatgraphs.cost_is_never_negative.Goals as goal

pub returns : goal.returns
returns c = λ c n g chain is. cost_not_negative c n g is chain
