use Rattle.sc_algebra.proofs.Sums.{sum-list, count-list}
use Rattle.sc_algebra.proofs.sums_over_lists.Goals as goal

pub returns : goal.returns
returns c = record { summed = λ f xs. sum-list f xs 0; counted = λ p xs. count-list p xs 0 }
