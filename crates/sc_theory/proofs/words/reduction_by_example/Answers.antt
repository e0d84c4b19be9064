use Rattle.std.proofs.Common.{refl}
use Rattle.sc_theory.proofs.words.reduction_by_example.Goals as goal

pub returns-clause-free : goal.returns-clause-free
returns-clause-free c = refl

pub returns-clause-cyclic : goal.returns-clause-cyclic
returns-clause-cyclic c = refl

pub returns-clause-same : goal.returns-clause-same
returns-clause-same c = refl

pub returns-clause-different : goal.returns-clause-different
returns-clause-different c = λ h. cc
