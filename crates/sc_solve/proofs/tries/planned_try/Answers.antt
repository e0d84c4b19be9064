use Rattle.sc_solve.proofs.TryLaws.{solution_within}
use Rattle.sc_solve.proofs.tries.planned_try.Goals as goal

pub returns-in-Ok-clause-solution : goal.returns-in-Ok-clause-solution
returns-in-Ok-clause-solution c = solution_within c.args.chain.now c.most_pivots-most.result c.args.budget c.most_pivots-most.ensures.within c.in-Ok.solution c.in-Ok.ensures.solution

pub returns-in-Err-clause-stopped : goal.returns-in-Err-clause-stopped
returns-in-Err-clause-stopped c = c.refusal_of.ensures c.args.chain.now c.in-Err.ensures.stopped
