use Rattle.sc_basis.proofs.InverseLaws.{determined, line_determined}
use Rattle.sc_basis.proofs.inverses.inverses_determine.Goals as goal

pub returns : goal.returns
returns c = record { products = determined; lines = line_determined }
