use Rattle.sc_fan.proofs.CornerLaws.{corner_kind}
use Rattle.sc_fan.proofs.laws.corner_lines_are_a_kind.Goals as goal

pub returns : goal.returns
returns c = corner_kind
