use Rattle.sc_assembly.proofs.SeedColumns.{feasible}
use Rattle.sc_assembly.proofs.laws.balanced_chains_have_polygons.Goals as goal

pub returns : goal.returns
returns c = feasible
