use Rattle.std.proofs.Common.{replicate, None}
use Rattle.sc_solve.proofs.PartLoops.{one_more_pivot}
use Rattle.sc_solve.proofs.assembling.last_polygons.Goals as goal

pub loop-pivot-preserved : goal.loop-pivot-preserved
loop-pivot-preserved c =
    one_more_pivot (replicate c.args.rows None) c.args.journal.now c.loop-pivot.pivot-index c.pivot-item.result c.in_ok-entering.entering c.loop-pivot-test.true c.pivot-item.is c.in_ok-entering.ensures c.loop-pivot.items.items c.loop-pivot.invariant
