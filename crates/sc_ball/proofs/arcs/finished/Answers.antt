use Rattle.sc_ball.proofs.HalfLaws.{finished_ok}
use Rattle.sc_ball.proofs.arcs.finished.Goals as goal

pub returns : goal.returns
returns c q first second n r arc ends few = finished_ok q first second c.args.arc n r c.settled.result c.settled.ensures.corners c.settled.ensures.edges arc ends few
