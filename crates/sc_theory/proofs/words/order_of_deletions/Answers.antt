use Rattle.sc_theory.proofs.Normal.{free_reduction-FreeDeletions, FreeDeletions-free_reduction}
use Rattle.sc_theory.proofs.words.order_of_deletions.Goals as goal

pub returns-clause-unique : goal.returns-clause-unique
returns-clause-unique c = free_reduction-FreeDeletions

pub returns-clause-reached : goal.returns-clause-reached
returns-clause-reached c = FreeDeletions-free_reduction
