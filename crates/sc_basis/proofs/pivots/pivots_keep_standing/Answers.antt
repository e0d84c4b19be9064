use Rattle.sc_basis.proofs.Pivoting.{rows_after, prices_after, stands_after}
use Rattle.sc_basis.proofs.pivots.pivots_keep_standing.Goals as goal

pub returns : goal.returns
returns c = record { rows = rows_after; prices = prices_after; numbers = stands_after }
