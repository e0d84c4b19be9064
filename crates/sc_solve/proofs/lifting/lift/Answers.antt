use Rattle.sc_solve.proofs.LiftLaws.{lift_covers}
use Rattle.sc_solve.proofs.lifting.lift.Goals as goal

pub returns-in-Ok-clause-covers : goal.returns-in-Ok-clause-covers
returns-in-Ok-clause-covers c = λ optimal. lift_covers c.args.chain.now c.args.prices.now c.in-Ok.list c.lifted.ensures.chain c.requires.prices optimal c.in-Ok.ensures.lift
