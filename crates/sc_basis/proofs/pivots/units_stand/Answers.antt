use Rattle.sc_basis.proofs.Units.{units}
use Rattle.sc_basis.proofs.pivots.units_stand.Goals as goal

pub returns : goal.returns
returns c = record { stands = units }
