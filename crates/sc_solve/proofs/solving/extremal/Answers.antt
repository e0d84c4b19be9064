use Rattle.sc_solve.proofs.EndingLaws.{solution_least, solution_conditions}
use Rattle.sc_solve.proofs.solving.extremal.Goals as goal

pub returns-clause-least : goal.returns-clause-least
returns-clause-least c = solution_least c.args.chain.now c.args.budget c.in_ok-solution.solution c.check_chain.ensures.chain c.in_ok-solution.ensures.solution

pub returns-clause-conditions : goal.returns-clause-conditions
returns-clause-conditions c = solution_conditions c.args.chain.now c.args.budget c.in_ok-solution.solution c.in_ok-solution.ensures.solution
