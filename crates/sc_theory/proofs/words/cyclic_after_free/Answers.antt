use Rattle.sc_theory.proofs.Cyclic.{cyclic_reduction-free_reduction}
use Rattle.sc_theory.proofs.words.cyclic_after_free.Goals as goal

pub returns : goal.returns
returns c = cyclic_reduction-free_reduction
