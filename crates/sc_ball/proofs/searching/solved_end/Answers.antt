use Rattle.sc_ball.proofs.SearchLaws.{unsolved_end, end_is_light}
use Rattle.sc_ball.proofs.searching.solved_end.Goals as goal

pub returns-in-Err-clause-stopped : goal.returns-in-Err-clause-stopped
returns-in-Err-clause-stopped c =
    c.unsolved.ensures c.args.first.now c.args.second.now c.args.budget
    (unsolved_end c.args.quadrant c.args.first.now c.args.second.now c.args.budget c.new.result.items c.args.end c.in-Err.fault c.new.ensures.items c.requires.end
    (end_is_light c.args.quadrant c.args.first.now c.args.second.now c.args.end c.check_chain.ensures c.check_chain-2.ensures c.requires.end) c.in-Err.ensures.stopped)
