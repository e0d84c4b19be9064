use Rattle.sc_basis.proofs.InverseLaws.{inverse_after}
use Rattle.sc_basis.proofs.inverses.pivots_keep_the_inverse.Goals as goal

pub returns : goal.returns
returns c = record { inverse = λ r column column' d l inv inside p here others. inverse_after r column column' d l inv inside (record { here = here; others = others }) p }
