use Rattle.sc_ball.proofs.HalfLaws.{begun_is}
use Rattle.sc_ball.proofs.arcs.begun.Goals as goal

pub returns : goal.returns
returns c q first second within primitive begins solved =
    begun_is q first second c.new.result.items c.corner_of-last.result c.new-2.result.items c.args.entry c.new.ensures.items c.corner_of-last.ensures c.new-2.ensures.items within primitive begins solved
