use Rattle.sc_cone.proofs.EmptyChains.{first_has_length, second_has_length}
use Rattle.sc_crossing.specs.Neighbours.{reached_of}
use Rattle.sc_crossing.proofs.next.next_direction.Goals as goal

pub light_direction-requires-clause-first : goal.light_direction-requires-clause-first
light_direction-requires-clause-first c =
    first_has_length c.args.quadrant c.args.first.now c.args.second.now (reached_of c.args.from.now) (reached_of c.args.to.now)
    c.check_chain.ensures.chain c.check_chain-2.ensures.chain c.requires.here c.requires.there c.requires.here_within c.requires.there_within c.requires.left c.requires.opened

pub light_direction-requires-clause-second : goal.light_direction-requires-clause-second
light_direction-requires-clause-second c =
    second_has_length c.args.quadrant c.args.first.now c.args.second.now (reached_of c.args.from.now) (reached_of c.args.to.now)
    c.check_chain.ensures.chain c.check_chain-2.ensures.chain c.requires.here c.requires.there c.requires.here_within c.requires.there_within c.requires.left c.requires.opened
