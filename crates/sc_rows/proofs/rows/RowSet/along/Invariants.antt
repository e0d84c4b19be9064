use Rattle.std.proofs.Common.{◌≡◌, ℕ, ◌<◌, length}
use Rattle.sc_basis.specs.Products.{at, dot}
use Rattle.sc_basis.specs.Bases.{entry_of}
use Rattle.sc_rows.specs.Lines.{row_of}
use Rattle.sc_rows.proofs.rows.RowSet.along.Given as goal

abbrev pub invariant-loop-index : goal.invariant-loop-index
invariant-loop-index l = record {
  size : length l.along.items ≡ l.index;
  products : (i : ℕ) → i < l.index → at l.along.items i ≡ dot (length l.rows) (row_of l.rows i) (entry_of l.column);
}
