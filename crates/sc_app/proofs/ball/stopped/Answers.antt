use Rattle.std.proofs.Common.{rules, List, ℤ, map, ap, ap₂, ◌∙◌, subst, sym, FitsSigned, to_z-of_z}
use Rattle.std.specs.Int.{w128}
use Rattle.sc_cone.specs.Fans.{quadrant_from}
use Rattle.sc_cone.specs.Searches.{reached}
use Rattle.sc_crossing.specs.declared.reached.Reached.{Reached}
use Rattle.sc_crossing.specs.Neighbours.{reached_of}
use Rattle.sc_ball.specs.declared.fault.BallFault.{BallFault}
use Rattle.sc_ball.specs.Faults.{IsBallFault}
use Rattle.sc_app.specs.declared.status.Status.TheVariants as statuses
use Rattle.sc_ball_refusal.specs.Texts.{length_text}
use Rattle.sc_app.specs.Ball.{shown, Shows}
use Rattle.sc_app.proofs.Balls.{shows_crossing, shows_length}
use Rattle.sc_app.proofs.ball.stopped.Goals as goal

pub returns-in_ok-cross_text-in-Cross : goal.returns-in_ok-cross_text-in-Cross
returns-in_ok-cross_text-in-Cross c = λ pivots evidence.
    subst (λ (fault : BallFault). Shows c.args.first.now c.args.second.now pivots fault statuses.Wide c.in_ok-cross_text-in-Cross.field-0.items) (sym c.in-Cross.is)
    (shows_crossing c.args.first.now c.args.second.now c.quadrant_of_search.result c.in-Cross.search.items c.as_slice-in-Cross-2.result.now c.in-Cross.from c.in-Cross.to c.in-Cross.place c.in-Cross.x c.in-Cross.y
    c.in_ok-cross_text-in-Cross.field-0.items
    (c.quadrant_of_search.ensures ∙ ap (λ (search : List Reached). quadrant_from (reached (map reached_of search) 0).direction.t) c.as_slice-in-Cross.ensures.value)
    c.as_slice-in-Cross-2.ensures.value (subst (IsBallFault c.args.first.now c.args.second.now pivots) c.in-Cross.is evidence) c.in_ok-cross_text-in-Cross.ensures)

pub returns-in_ok-length_text-in-Length : goal.returns-in_ok-length_text-in-Length
returns-in_ok-length_text-in-Length c = λ pivots evidence.
    let s_fits : FitsSigned w128 c.in-Length.s = search rules in
    let t_fits : FitsSigned w128 c.in-Length.t = search rules in
    subst (λ (fault : BallFault). Shows c.args.first.now c.args.second.now pivots fault statuses.Sides c.in_ok-length_text-in-Length.field-0.items) (sym c.in-Length.is)
    (shows_length c.args.first.now c.args.second.now c.quadrant_of_search-in-Length.result c.in-Length.search.items c.as_slice-in-Length-2.result.now c.in-Length.from c.in-Length.to c.in-Length.s c.in-Length.t
    c.in_ok-length_text-in-Length.field-0.items
    (c.quadrant_of_search-in-Length.ensures ∙ ap (λ (search : List Reached). quadrant_from (reached (map reached_of search) 0).direction.t) c.as_slice-in-Length.ensures.value)
    c.as_slice-in-Length-2.ensures.value (subst (IsBallFault c.args.first.now c.args.second.now pivots) c.in-Length.is evidence)
    (c.in_ok-length_text-in-Length.ensures
    ∙ ap₂ (λ (s t : ℤ). length_text (shown c.quadrant_of_search-in-Length.result c.args.first.now c.args.second.now c.as_slice-in-Length-2.result.now) c.in-Length.from c.in-Length.to s t) (to_z-of_z s_fits) (to_z-of_z t_fits)))
