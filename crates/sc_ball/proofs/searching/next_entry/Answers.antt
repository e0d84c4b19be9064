use Rattle.sc_ball.proofs.SearchLaws.{next_is_small}
use Rattle.sc_crossing.specs.Neighbours.{reached_of}
use Rattle.sc_ball.proofs.searching.next_entry.Goals as goal

pub solved_at-requires-clause-small : goal.solved_at-requires-clause-small
solved_at-requires-clause-small c =
    next_is_small c.args.quadrant c.args.first.now c.args.second.now c.check_chain.ensures.chain c.check_chain-2.ensures.chain (reached_of c.args.from.now) (reached_of c.args.to.now) c.in-Ok.direction c.requires.gap c.in-Ok.ensures.light
