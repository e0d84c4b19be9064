use Rattle.sc_fan.proofs.TextLaws.{text_is_of_one}
use Rattle.sc_fan.proofs.laws.fan_text_is_of_one_fan.Goals as goal

pub returns : goal.returns
returns c = text_is_of_one
