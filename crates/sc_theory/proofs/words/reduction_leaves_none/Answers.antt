use Rattle.sc_theory.proofs.Reduction.{delete_leftmost-free_reduction, IsReduced-cyclic_reduction}
use Rattle.sc_theory.proofs.words.reduction_leaves_none.Goals as goal

pub returns-clause-free : goal.returns-clause-free
returns-clause-free c = delete_leftmost-free_reduction

pub returns-clause-cyclic : goal.returns-clause-cyclic
returns-clause-cyclic c = IsReduced-cyclic_reduction
