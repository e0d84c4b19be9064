use Rattle.std.proofs.Common.{◌+◌, arith}
use Rattle.std.proofs.lemmas.Result.{err_from_is_err_and}
use Rattle.sc_tables.proofs.Best.{best_next, under_each_below, stop_within}
use Rattle.sc_tables.proofs.search.best_into.Goals as goal

pub loop-node-preserved : goal.loop-node-preserved
loop-node-preserved g c =
    best_next g.W.Weight.levels c.args.prices.now c.args.nodes.now c.args.fresh c.loop-node.node c.args.end c.args.to c.loop-node.best _ c.cheaper-best.result
    c.loop-node-test.true c.loop-node.invariant c.in_ok-with_step.ensures.found c.in_ok-with_step.ensures.none c.cheaper-best.ensures.one c.cheaper-best.ensures.below_next c.cheaper-best.ensures.below_best

pub returns-clause-under_each : goal.returns-clause-under_each
returns-clause-under_each g c =
    under_each_below g.W.Weight.levels c.args.prices.now c.args.nodes.now c.args.fresh c.loop-node.node c.args.end c.args.to c.loop-node.best (omega arith) c.loop-node.invariant.under_each

pub returns-in_err-with_step-clause-stops : goal.returns-in_err-with_step-clause-stops
returns-in_err-with_step-clause-stops g c =
    let p = err_from_is_err_and c.from_residual.result c.from_residual.ensures.1 in
    rw (p.1, p.2) (stop_within g.W.Weight.levels c.args.prices.now c.args.nodes.now (c.loop-node.node + 1) c.args.end c.args.to _ (omega arith) c.in_err-with_step.ensures.stops)
