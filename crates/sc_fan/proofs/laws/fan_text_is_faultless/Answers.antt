use Rattle.sc_fan.proofs.TextLaws.{text_is_faultless}
use Rattle.sc_fan.proofs.laws.fan_text_is_faultless.Goals as goal

pub returns : goal.returns
returns c = text_is_faultless
