use Rattle.sc_theory.proofs.Normal.{same_reductions}
use Rattle.sc_theory.proofs.words.same_element_by_reduction.Goals as goal

pub returns : goal.returns
returns c = same_reductions
