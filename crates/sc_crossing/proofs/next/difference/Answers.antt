use Rattle.std.proofs.Common.{refl}
use Rattle.sc_crossing.proofs.Refusals.{no_difference}
use Rattle.sc_crossing.proofs.next.difference.Goals as goal

pub returns-in-Err-clause-refused : goal.returns-in-Err-clause-refused
returns-in-Err-clause-refused c = (refl, no_difference c.args.x.now c.args.y.now c.in-Err.field-0 c.in-Err.ensures.evidence)
