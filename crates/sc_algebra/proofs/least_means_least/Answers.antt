use Rattle.sc_algebra.proofs.Cycles.{least_means_least, least_from_all}
use Rattle.sc_algebra.proofs.least_means_least.Goals as goal

pub returns : goal.returns
returns c = record { least = λ t n h s l. (least_means_least h s l, least_from_all t n s) }
