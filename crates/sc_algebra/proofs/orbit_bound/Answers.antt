use Rattle.sc_algebra.proofs.Cycles.{orbit_bound}
use Rattle.sc_algebra.proofs.orbit_bound.Goals as goal

pub returns : goal.returns
returns c = record { bounded = orbit_bound }
