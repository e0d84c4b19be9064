use Rattle.sc_fraction.proofs.SameValues.{same_frac}
use Rattle.sc_fraction.proofs.laws.equal_values_are_equal_fractions.Goals as goal

pub returns : goal.returns
returns c = same_frac
