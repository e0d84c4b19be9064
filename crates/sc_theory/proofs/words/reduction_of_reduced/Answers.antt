use Rattle.sc_theory.specs.Words.{free_reduction, cyclic_reduction}
use Rattle.sc_theory.proofs.Reduction.{delete_leftmost-free_reduction, IsReduced-cyclic_reduction, free_reduction-itself, cyclic_reduction-itself}
use Rattle.sc_theory.proofs.words.reduction_of_reduced.Goals as goal

pub returns-clause-free : goal.returns-clause-free
returns-clause-free c = free_reduction-itself

pub returns-clause-cyclic : goal.returns-clause-cyclic
returns-clause-cyclic c = cyclic_reduction-itself

pub returns-clause-free_twice : goal.returns-clause-free_twice
returns-clause-free_twice c = λ w. free_reduction-itself (free_reduction w) (delete_leftmost-free_reduction w)

pub returns-clause-cyclic_twice : goal.returns-clause-cyclic_twice
returns-clause-cyclic_twice c = λ w. cyclic_reduction-itself (cyclic_reduction w) (IsReduced-cyclic_reduction w)
