use Rattle.sc_basis.proofs.RowOrder.{leaving_row, leaving_row_is_one}
use Rattle.sc_basis.proofs.leaving.one_row_leaves.Goals as goal

pub returns-clause-some : goal.returns-clause-some
returns-clause-some c = λ r b basis t column i stands inside positive. leaving_row r b t column basis i stands inside positive

pub returns-clause-only : goal.returns-clause-only
returns-clause-only c = leaving_row_is_one
