use Rattle.sc_algebra.proofs.Permutations.{antisymmetric-cancel}
use Rattle.sc_algebra.proofs.antisymmetric_sums_vanish.Goals as goal

pub returns : goal.returns
returns c = record { cancelled = antisymmetric-cancel }
