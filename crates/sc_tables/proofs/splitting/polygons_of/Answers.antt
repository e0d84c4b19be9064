use Rattle.std.proofs.Common.{◌≡◌, List, ℕ, ◌+◌, [], get_or, drop, arith, subst, ap, ◌∙◌}
use Rattle.sc_theory.specs.Walks.{walks_total}
use Rattle.sc_tables.specs.inside.Splits.{IsPolygonOf}
use Rattle.sc_tables.proofs.SplitSteps.{IsSplitSoFar, drop_here, drop_all, may_return, split_step, last_steps}
use Rattle.sc_tables.proofs.splitting.polygons_of.Goals as goal

pub pass-requires-clause-returns : goal.pass-requires-clause-returns
pass-requires-clause-returns c =
    let so_far = subst (λ (ys : List ℕ). IsSplitSoFar c.args.chain.now c.args.walk.now c.loop-position.path.items ys c.loop-position.polygons.items) (drop_here c.args.walk.now c.loop-position.position-index c.loop-position-test.true) c.loop-position.invariant in
    may_return c.args.chain.now c.loop-position.path.items (get_or c.args.walk.now c.loop-position.position-index 0) (drop (c.loop-position.position-index + 1) c.args.walk.now) so_far.closed

pub loop-position-preserved : goal.loop-position-preserved
loop-position-preserved c =
    let so_far = subst (λ (ys : List ℕ). IsSplitSoFar c.args.chain.now c.args.walk.now c.loop-position.path.items ys c.loop-position.polygons.items) (drop_here c.args.walk.now c.loop-position.position-index c.loop-position-test.true) c.loop-position.invariant in
    split_step c.args.chain.now c.args.walk.now c.loop-position.path.items c.pass.new.path.items (get_or c.args.walk.now c.loop-position.position-index 0) (drop (c.loop-position.position-index + 1) c.args.walk.now)
    c.loop-position.polygons.items c.pass.new.polygons.items so_far c.in_ok-pass.ensures

pub returns-clause-steps : goal.returns-clause-steps
returns-clause-steps c =
    let none : drop c.loop-position.position-index c.args.walk.now ≡ [] = drop_all c.args.walk.now c.loop-position.position-index (omega arith) in
    let is = subst (λ (ys : List ℕ). IsPolygonOf c.args.chain.now ys c.in_ok-polygon_of.field-0) c.as_slice.ensures.value c.in_ok-polygon_of.ensures in
    λ f. ap (walks_total f) c.in_ok-push.ensures.items
    ∙ last_steps c.args.chain.now c.args.walk.now c.loop-position.path.items (drop c.loop-position.position-index c.args.walk.now) c.loop-position.polygons.items c.loop-position.invariant none c.in_ok-polygon_of.field-0 is f
