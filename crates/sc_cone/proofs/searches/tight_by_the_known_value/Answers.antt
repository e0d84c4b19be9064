use Rattle.sc_cone.proofs.NextDirections.{tight_by_value}
use Rattle.sc_cone.proofs.searches.tight_by_the_known_value.Goals as goal

pub returns : goal.returns
returns c = tight_by_value
