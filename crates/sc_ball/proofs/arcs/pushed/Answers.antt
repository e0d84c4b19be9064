use Rattle.std.specs.Option.{option_map}
use Rattle.sc_fan.specs.FanRead.{edge_said}
use Rattle.sc_ball.proofs.HalfLaws.{pushed_is}
use Rattle.sc_ball.proofs.arcs.pushed.Goals as goal

pub returns : goal.returns
returns c q n r arc step not_tight =
    pushed_is q c.args.first.now c.args.second.now c.args.arc c.in_ok-corners.field-0.corners.items c.corner_of-end.result c.in_ok-corners.field-0.edges.items c.edge_between-edge.result c.chosen-list.result.spare c.args.entry n r c.chosen-list.result.list
    c.in_ok-corners.ensures.corners c.corner_of-end.ensures c.in_ok-corners.ensures.edges c.edge_between-edge.ensures
    (c.chosen-list.ensures q r (option_map edge_said c.args.arc.edge)) arc step not_tight
