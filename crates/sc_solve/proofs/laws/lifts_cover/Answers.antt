use Rattle.sc_solve.proofs.LiftLaws.{lift_covers, one_lift}
use Rattle.sc_solve.proofs.laws.lifts_cover.Goals as goal

pub returns : goal.returns
returns c = record { covers = lift_covers; one = one_lift }
