use Rattle.sc_algebra.proofs.Sums.{count-sum, count-le, count-not}
use Rattle.sc_algebra.proofs.laws_of_counts.Goals as goal

pub returns : goal.returns
returns c = record { summed = count-sum; bounded = count-le; completed = count-not }
