use Rattle.sc_basis.proofs.BoundedColumns.{bounded_column}
use Rattle.sc_basis.proofs.leaving.improving_columns_are_bounded.Goals as goal

pub returns : goal.returns
returns c = record { bounded = bounded_column }
