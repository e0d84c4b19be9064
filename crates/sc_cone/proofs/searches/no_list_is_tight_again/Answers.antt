use Rattle.sc_cone.proofs.NextDirections.{not_tight_beyond}
use Rattle.sc_cone.proofs.searches.no_list_is_tight_again.Goals as goal

pub returns : goal.returns
returns c = not_tight_beyond
