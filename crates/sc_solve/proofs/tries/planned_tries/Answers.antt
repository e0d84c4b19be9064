use Rattle.sc_solve.proofs.tries.planned_tries.Goals as goal

pub returns-then-refusal-clause-stopped : goal.returns-then-refusal-clause-stopped
returns-then-refusal-clause-stopped c = c.best_with-best.ensures c.args.chain.now c.args.budget c.loop-planned.invariant c.in-Err.ensures.stopped

pub loop-planned-preserved : goal.loop-planned-preserved
loop-planned-preserved c = c.best_with-best.ensures c.args.chain.now c.args.budget c.loop-planned.invariant c.in-Err.ensures.stopped
