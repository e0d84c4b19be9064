use Rattle.std.proofs.Common.{suc, map, subst}
use Rattle.sc_cone.specs.Searches.{reached}
use Rattle.sc_crossing.specs.Neighbours.{reached_of}
use Rattle.sc_ball.specs.inside.Searched.{IsStopBetween}
use Rattle.sc_ball.proofs.SearchLaws.{unsolved_next}
use Rattle.sc_ball.proofs.searching.stopped.Goals as goal

pub returns-in-Solve : goal.returns-in-Solve
returns-in-Solve c first second budget place opened from to stop =
    let rs = map reached_of c.args.search.items in
    let said = subst (IsStopBetween c.args.quadrant first second budget (reached rs place) (reached rs (suc place))) c.in-Solve.is stop in
    c.unsolved.ensures first second budget (unsolved_next c.args.quadrant first second budget place rs c.in-Solve.direction c.in-Solve.fault opened said.0 said.1 said.2)

pub returns-in-Next : goal.returns-in-Next
returns-in-Next c first second budget place opened from to stop =
    let rs = map reached_of c.args.search.items in
    c.uncrossed.ensures c.args.quadrant first second budget
    (record {
      place = place;
      opened = opened;
      from_is = from;
      to_is = to;
      stopped = subst (IsStopBetween c.args.quadrant first second budget (reached rs place) (reached rs (suc place))) c.in-Next.is stop;
    })
