use Rattle.sc_algebra.proofs.Permutations.{parity}
use Rattle.sc_algebra.proofs.involutions_make_pairs.Goals as goal

pub returns : goal.returns
returns c = record { halved = parity }
