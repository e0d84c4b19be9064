use Rattle.sc_ball.proofs.HalfLaws.{extended_is}
use Rattle.sc_ball.proofs.arcs.extended.Goals as goal

pub returns : goal.returns
returns c q first second n r is_first is_second arc step tight =
    extended_is q first second c.args.arc c.corner_of-last.result c.with_end.result c.args.entry n r c.corner_of-last.ensures c.with_end.ensures is_first is_second arc step tight
