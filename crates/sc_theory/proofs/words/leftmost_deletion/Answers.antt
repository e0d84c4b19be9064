use Rattle.sc_theory.proofs.Normal.{IsFree-refuses}
use Rattle.sc_theory.proofs.Reduction.{FreelyDeletes-leftmost}
use Rattle.sc_theory.proofs.words.leftmost_deletion.Goals as goal

pub returns-clause-some : goal.returns-clause-some
returns-clause-some c = FreelyDeletes-leftmost

pub returns-clause-none : goal.returns-clause-none
returns-clause-none c = IsFree-refuses
