use Rattle.std.proofs.Common.{arith}
use Rattle.sc_solve.specs.inside.StepCounts.{step_between}
use Rattle.sc_solve.proofs.Counting.{next_counted}
use Rattle.sc_solve.proofs.columns.steps_between.Goals as goal

pub loop-next-preserved : goal.loop-next-preserved
loop-next-preserved c = record {
  few = omega (arith, c.step_counted-count.ensures.few, c.loop-next.invariant.few);
  total = next_counted (step_between c.args.from c.args.to) _ c.loop-next.here _ c.loop-next.next-index c.loop-next.count c.step_counted-count.result _ (omega arith) c.step_counted-count.ensures.step c.loop-next.invariant.total;
}
