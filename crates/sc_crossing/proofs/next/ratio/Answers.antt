use Rattle.std.proofs.Common.{refl}
use Rattle.sc_crossing.proofs.Refusals.{no_ratio}
use Rattle.sc_crossing.proofs.next.ratio.Goals as goal

pub returns-in-Err-clause-refused : goal.returns-in-Err-clause-refused
returns-in-Err-clause-refused c = (refl, no_ratio c.args.x.now c.args.y.now c.in-Err.field-0 c.requires c.in-Err.ensures.zero c.in-Err.ensures.evidence)
