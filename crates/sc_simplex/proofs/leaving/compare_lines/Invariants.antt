use Rattle.std.proofs.Common.{◌≡◌, ℕ, ◌<◌, ◌*ℤ◌}
use Rattle.sc_basis.specs.Products.{at}
use Rattle.sc_rows.specs.Lines.{row_of}
use Rattle.sc_simplex.proofs.leaving.compare_lines.Given as goal

abbrev pub invariant-loop-k : goal.invariant-loop-k
invariant-loop-k l = (j : ℕ) → j < l.k → at l.along l.second *ℤ row_of l.rows l.first j ≡ at l.along l.first *ℤ row_of l.rows l.second j
