use Rattle.std.proofs.Common.{length, arith}
use Rattle.sc_shape.specs.Classes.{entry}
use Rattle.sc_shape.proofs.Spreading.{classes_end}
use Rattle.sc_shape.proofs.classes.spread_all.Goals as goal

pub returns : goal.returns
returns c =
    classes_end (entry c.args.first.now) (entry c.args.second.now) (length c.args.first.now) c.loop-start.marks c.loop-start.least c.loop-start.start
    (omega (arith, c.loop-start-test.false, c.loop-start.auto.start-end)) c.loop-start.invariant
