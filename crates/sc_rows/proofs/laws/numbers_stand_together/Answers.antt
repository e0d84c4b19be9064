use Rattle.sc_rows.proofs.StandingLaws.{stand_together}
use Rattle.sc_rows.proofs.laws.numbers_stand_together.Goals as goal

pub returns : goal.returns
returns c = record { stand = stand_together }
