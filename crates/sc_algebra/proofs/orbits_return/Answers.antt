use Rattle.sc_algebra.proofs.Cycles.{period}
use Rattle.sc_algebra.proofs.orbits_return.Goals as goal

pub returns : goal.returns
returns c = record { returned = λ t n h. period h }
