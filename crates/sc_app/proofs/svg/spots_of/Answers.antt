use Rattle.sc_app.proofs.FanDrawings.{read_in_range, one_more_spot}
use Rattle.sc_app.proofs.svg.spots_of.Goals as goal

pub spot_of-requires : goal.spot_of-requires
spot_of-requires c = read_in_range c.args.corners.now c.loop-corner.corner-index c.corner-item.result c.loop-corner-test.true c.corner-item.is c.requires

pub loop-corner-preserved : goal.loop-corner-preserved
loop-corner-preserved c =
    one_more_spot c.args.corners.now c.loop-corner.corner-index c.corner-item.result c.loop-corner-test.true c.corner-item.is
    c.loop-corner.spots.items c.push.new.self.items c.spot_of.result c.loop-corner.invariant c.spot_of.ensures c.in_ok-push.ensures.items
