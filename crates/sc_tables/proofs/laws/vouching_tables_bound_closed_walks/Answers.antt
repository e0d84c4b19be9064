use Rattle.sc_tables.proofs.Vouching.{bounds_closed}
use Rattle.sc_tables.proofs.laws.vouching_tables_bound_closed_walks.Goals as goal

pub returns : goal.returns
returns c = bounds_closed
