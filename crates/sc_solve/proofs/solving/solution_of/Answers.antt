use Rattle.sc_solve.proofs.EndingLaws.{unlifted_is}
use Rattle.sc_solve.proofs.solving.solution_of.Goals as goal

pub returns-in-Err-clause-stopped : goal.returns-in-Err-clause-stopped
returns-in-Err-clause-stopped c = λ budget is. unlifted_is c.args.chain.now budget c.args.ending c.in-Err.fault c.unlifted.result is c.in-Err.ensures.faults c.unlifted.ensures
