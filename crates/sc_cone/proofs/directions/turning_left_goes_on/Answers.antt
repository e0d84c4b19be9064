use Rattle.sc_cone.proofs.Turning.{turns_on}
use Rattle.sc_cone.proofs.directions.turning_left_goes_on.Goals as goal

pub returns : goal.returns
returns c = turns_on
