use Rattle.sc_assembly.proofs.SeedColumns.{feasible as seed}
use Rattle.sc_solve.proofs.Feasible.{feasible}
use Rattle.sc_solve.proofs.laws.balanced_chains_are_sums_of_columns.Goals as goal

pub returns : goal.returns
returns c = λ ch b chain balanced same. feasible ch (seed ch chain balanced).0 b (seed ch chain balanced).1 same
