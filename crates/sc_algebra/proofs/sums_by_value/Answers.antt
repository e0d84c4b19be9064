use Rattle.sc_algebra.proofs.Sums.{sum_by_value, count-partition}
use Rattle.sc_algebra.proofs.sums_by_value.Goals as goal

pub returns : goal.returns
returns c = record { weighed = sum_by_value; counted = count-partition }
