use Rattle.sc_app.specs.Svg.{is_headed_as_fan}
use Rattle.sc_app.proofs.svg.is_headed_as_fan.Goals as goal

pub returns : goal.returns
unfolding is_headed_as_fan
returns c = c.starts_with.ensures.value
