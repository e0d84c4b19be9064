use Rattle.sc_basis.proofs.RowOrder.{lists_differ}
use Rattle.sc_basis.proofs.leaving.no_rows_tie.Goals as goal

pub returns : goal.returns
returns c = record { differ = lists_differ }
