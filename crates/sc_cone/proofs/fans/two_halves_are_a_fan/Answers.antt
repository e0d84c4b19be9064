use Rattle.sc_cone.proofs.Halves.{fan_of_halves}
use Rattle.sc_cone.proofs.fans.two_halves_are_a_fan.Goals as goal

pub returns : goal.returns
returns c = fan_of_halves
