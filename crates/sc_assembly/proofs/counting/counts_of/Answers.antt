use Rattle.sc_assembly.proofs.PartLoops.{counts_more}
use Rattle.sc_assembly.proofs.counting.counts_of.Goals as goal

pub loop-part-preserved : goal.loop-part-preserved
loop-part-preserved c =
    counts_more c.args.parts.now c.loop-part.part-index c.part-item.result c.loop-part-test.true c.part-item.is
    c.args.n c.loop-part.counts.items c.push.new.self.items c.times.result c.loop-part.invariant c.times.ensures c.in_ok-push.ensures.items
