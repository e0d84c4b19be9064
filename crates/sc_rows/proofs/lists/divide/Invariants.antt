use Rattle.std.proofs.Common.{◌≡◌, ℕ, ◌<◌, ◌≤◌, pos, ◌*ℤ◌}
use Rattle.sc_basis.specs.Products.{at}
use Rattle.sc_rows.proofs.lists.divide.Given as goal

abbrev pub invariant-loop-index : goal.invariant-loop-index
invariant-loop-index l = record {
  done : (k : ℕ) → k < l.index → pos l.divisor *ℤ at l.entries k ≡ at l.fn.entries k;
  rest : (k : ℕ) → l.index ≤ k → at l.entries k ≡ at l.fn.entries k;
}
