use Rattle.sc_theory.specs.Columns.{rows, column}
use Rattle.sc_solve.proofs.ColumnTotals.{column_total, right_side_total}
use Rattle.sc_solve.specs.EntryLaws.{entry_is}
use Rattle.sc_solve.proofs.laws.columns_price_their_walks.Goals as goal

pub returns : goal.returns
returns c = record {
  walks = λ ch v scale walk chain closed. column_total ch chain v scale walk closed;
  entries = λ ch walk k inside. entry_is (column ch walk) (rows ch) k inside;
  bound = right_side_total;
}
