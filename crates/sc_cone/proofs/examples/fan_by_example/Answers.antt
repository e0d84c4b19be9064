use Rattle.sc_cone.proofs.FanExamples.{flat_fan_is, four_corners_refused, commutators_fan_is}
use Rattle.sc_cone.proofs.examples.fan_by_example.Goals as goal

pub returns : goal.returns
returns c = record { fan = flat_fan_is; refused = four_corners_refused; commutators = commutators_fan_is }
