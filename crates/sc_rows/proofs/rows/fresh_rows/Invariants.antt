use Rattle.std.proofs.Common.{◌≡◌, length}
use Rattle.sc_basis.specs.Products.{at}
use Rattle.sc_rows.specs.inside.Fresh.{AreFresh}
use Rattle.sc_rows.proofs.rows.fresh_rows.Given as goal

abbrev pub invariant-loop-index : goal.invariant-loop-index
invariant-loop-index l = record {
  size : length l.fresh.items ≡ l.index;
  fresh : AreFresh l.rows (at l.along) l.leaving l.index l.fresh.items;
}
