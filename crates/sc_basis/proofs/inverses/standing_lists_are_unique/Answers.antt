use Rattle.sc_basis.proofs.InverseLaws.{unique}
use Rattle.sc_basis.proofs.inverses.standing_lists_are_unique.Goals as goal

pub returns : goal.returns
returns c = record { unique = unique }
