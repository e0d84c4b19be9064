use Rattle.std.proofs.Common.{sym, subst}
use Rattle.sc_theory.specs.Chains.{IsBalanced}
use Rattle.sc_cone.proofs.ConeWords.{is_balanced}
use Rattle.sc_ball.proofs.SolvedLaws.{solved_is}
use Rattle.sc_ball.proofs.solved.solved_at.Goals as goal

pub extremal-requires-clause-balanced : goal.extremal-requires-clause-balanced
extremal-requires-clause-balanced c =
    subst IsBalanced (sym c.in_ok-chain.ensures) (is_balanced c.args.quadrant c.args.first.now c.args.second.now c.args.direction c.requires.plane.first_balanced c.requires.plane.second_balanced)

pub returns-clause-solved : goal.returns-clause-solved
returns-clause-solved c =
    solved_is c.args.quadrant c.args.first.now c.args.second.now c.check_chain.ensures.chain c.check_chain-2.ensures.chain c.args.direction c.requires.light c.requires.small c.in_ok-solution.solution c.check_solution.ensures.surface c.check_solution.ensures.list
    c.in_ok-chain.chain c.args.budget c.in_ok-chain.ensures c.in_ok-solution.ensures.solution c.in_ok-solution.ensures.least
