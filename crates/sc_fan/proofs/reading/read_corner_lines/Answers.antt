use Rattle.std.proofs.Common.{List, map, subst, sym}
use Rattle.std.proofs.lemmas.Result.{err_from_is_err_and}
use Rattle.sc_cone.specs.Fans.{Corner as PlaneCorner}
use Rattle.sc_fan.specs.declared.corner.Corner.{Corner}
use Rattle.sc_fan.specs.Corners.{corner_said, a_corner}
use Rattle.sc_fan.proofs.ReaderLaws.{AreItems, no_items, item_fails, more_corners, all_items}
use Rattle.sc_fan.proofs.reading.read_corner_lines.Goals as goal

pub loop-index-init : goal.loop-index-init
loop-index-init c =
    subst (λ (cs : List Corner). AreItems (λ (b : List PlaneCorner). a_corner) c.args.count c.args.lines.now (map corner_said cs) c.args.lines.now 0) (sym c.new-corners.ensures.items)
    (no_items (λ (b : List PlaneCorner). a_corner) c.args.count c.args.lines.now)

pub returns-in_err-corner : goal.returns-in_err-corner
returns-in_err-corner c =
    let p = err_from_is_err_and c.from_residual.result c.from_residual.ensures.1 in
    rw (p.1, p.2)
    (item_fails (λ (b : List PlaneCorner). a_corner) c.args.count c.args.lines.now (map corner_said c.loop-index.corners.items) c.loop-index.lines c.loop-index._index c.in_err-corner.field-0.0 c.loop-index.invariant c.loop-index-test.true c.in_err-corner.ensures)

pub loop-index-preserved : goal.loop-index-preserved
loop-index-preserved c =
    more_corners c.args.count c.args.lines.now c.loop-index.corners.items c.push.new.self.items c.loop-index.lines c.corner.new.self c.loop-index._index c.in_ok-corner.corner c.loop-index.invariant c.loop-index-test.true c.in_ok-push.ensures.items c.in_ok-corner.ensures

pub returns : goal.returns
returns c = all_items (λ (b : List PlaneCorner). a_corner) c.args.count c.args.lines.now (map corner_said c.loop-index.corners.items) c.loop-index.lines c.loop-index._index c.loop-index.invariant c.loop-index-test.false
