use Rattle.std.proofs.Common.{◌≡◌, ℕ, ◌≤◌}
use Rattle.sc_basis.specs.Products.{at}
use Rattle.sc_rows.specs.inside.Updates.{AreJoined}
use Rattle.sc_rows.proofs.update.change_entries.Given as goal

abbrev pub invariant-loop-index : goal.invariant-loop-index
invariant-loop-index l = record {
  done : AreJoined l.update l.index (at l.fn.entries) (at l.left) l.ratio.den l.ratio.num (at l.entries);
  rest : (k : ℕ) → l.index ≤ k → at l.entries k ≡ at l.fn.entries k;
}
