use Rattle.sc_fan.proofs.TextLaws.{faultless_is_text}
use Rattle.sc_fan.proofs.laws.faultless_is_fan_text.Goals as goal

pub returns : goal.returns
returns c = faultless_is_text
