use Rattle.sc_solve.proofs.tries.last_try.Goals as goal

pub returns-in-Err-clause-stopped : goal.returns-in-Err-clause-stopped
returns-in-Err-clause-stopped c = c.best_of.ensures c.args.chain.now c.args.budget c.requires.best c.in-Err.ensures.stopped
