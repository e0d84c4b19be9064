use Rattle.sc_algebra.proofs.Sums.{sum_blocks, sum_at_places}
use Rattle.sc_algebra.proofs.sums_in_parts.Goals as goal

pub returns : goal.returns
returns c = record { blocks = sum_blocks; places = sum_at_places }
