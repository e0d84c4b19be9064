use Rattle.sc_cone.proofs.PrimitiveDirections.{same_direction}
use Rattle.sc_cone.proofs.directions.primitive_directions_are_one.Goals as goal

pub returns : goal.returns
returns c = same_direction
