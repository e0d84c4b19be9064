use Rattle.sc_theory.proofs.Reduction.{total-free_reduction, total-cyclic_reduction}
use Rattle.sc_theory.proofs.words.reduction_keeps_totals.Goals as goal

pub returns-clause-free : goal.returns-clause-free
returns-clause-free c = total-free_reduction

pub returns-clause-cyclic : goal.returns-clause-cyclic
returns-clause-cyclic c = total-cyclic_reduction
