use Rattle.std.proofs.Common.{◌≡◌, ℕ, ◌<◌, length, get_or}
use Rattle.sc_rows.specs.Lines.{no_line}
use Rattle.sc_rows.specs.inside.Lines.{IsUnitLine}
use Rattle.sc_rows.proofs.rows.RowSet.start.Given as goal

abbrev pub invariant-loop-index : goal.invariant-loop-index
invariant-loop-index l = record {
  size : length l.rows.items ≡ l.index;
  units : (i : ℕ) → i < l.index → IsUnitLine l.r i (get_or l.rows.items i no_line);
}
