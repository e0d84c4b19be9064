use Rattle.sc_algebra.proofs.Permutations.{reindex, count-reindex}
use Rattle.sc_algebra.proofs.reindexing.Goals as goal

pub returns : goal.returns
returns c = record { summed = reindex; counted = count-reindex }
