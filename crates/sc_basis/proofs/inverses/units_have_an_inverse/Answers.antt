use Rattle.sc_basis.proofs.InverseLaws.{inverse_start}
use Rattle.sc_basis.proofs.inverses.units_have_an_inverse.Goals as goal

pub returns : goal.returns
returns c = record { inverse = inverse_start }
