use Rattle.sc_fan.proofs.TextLaws.{printed_is_read}
use Rattle.sc_fan.proofs.laws.printed_fans_are_read.Goals as goal

pub returns : goal.returns
returns c = printed_is_read
