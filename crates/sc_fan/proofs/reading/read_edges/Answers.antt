use Rattle.std.proofs.Common.{◌-◌, ◌∙◌, List, length, sym, subst}
use Rattle.std.proofs.lemmas.Result.{err_from_is_err_and}
use Rattle.sc_fan.specs.declared.fan.Edge.{Edge}
use Rattle.sc_fan.specs.Reading.{Fails}
use Rattle.sc_fan.proofs.ReaderLaws.{AreEdgesTo, edge_count_stops, edges_counted, no_edges, more_edges, edge_stops, all_edges}
use Rattle.sc_fan.proofs.reading.read_edges.Goals as goal

pub returns-in_err-count-clause-told : goal.returns-in_err-count-clause-told
returns-in_err-count-clause-told c =
    let p = err_from_is_err_and c.from_residual.result c.from_residual.ensures.1 in
    rw (p.1, p.2) (edge_count_stops c.args.words c.args.upper.now c.args.lower.now c.args.corners.now c.args.lines.now c.in_err-count.field-0.0 c.in_err-count.ensures)

pub loop-number-init : goal.loop-number-init
loop-number-init c =
    subst (λ (es : List Edge). AreEdgesTo c.args.words c.args.upper.now c.args.lower.now c.args.corners.now (length c.args.corners.now - 1) c.count.new.self es c.count.new.self 0) (sym c.new-edges.ensures.items)
    (no_edges c.args.words c.args.upper.now c.args.lower.now c.args.corners.now (length c.args.corners.now - 1) c.count.new.self)

pub returns-in_err-edge-clause-told : goal.returns-in_err-edge-clause-told
returns-in_err-edge-clause-told c =
    let whole = edges_counted c.args.words c.args.upper.now c.args.lower.now c.args.corners.now c.args.lines.now c.in_ok-count.field-0 c.count.new.self c.in_ok-count.ensures in
    let bad =
    edge_stops c.args.words c.args.upper.now c.args.lower.now c.args.corners.now (length c.args.corners.now - 1) c.count.new.self c.loop-number.edges.items c.loop-number.lines c.loop-number.number c.in_err-edge.field-0.0
    c.loop-number.invariant c.loop-number-test.true c.in_err-edge.ensures.told in
    let p = err_from_is_err_and c.from_residual-in_err-edge.result c.from_residual-in_err-edge.ensures.1 in
    rw (p.1, p.2) (subst (Fails c.in_err-edge.field-0.0) (sym whole) bad)

pub loop-number-preserved : goal.loop-number-preserved
loop-number-preserved c =
    let edge = c.in_ok-edge.ensures in
    more_edges c.args.words c.args.upper.now c.args.lower.now c.args.corners.now (length c.args.corners.now - 1) c.count.new.self c.loop-number.edges.items c.push.new.self.items c.loop-number.lines c.read_edge.new.lines c.loop-number.number
    c.in_ok-edge.edge c.loop-number.invariant c.loop-number-test.true c.in_ok-push.ensures.items edge.told edge.from edge.to

pub returns-clause-told : goal.returns-clause-told
returns-clause-told c =
    edges_counted c.args.words c.args.upper.now c.args.lower.now c.args.corners.now c.args.lines.now c.in_ok-count.field-0 c.count.new.self c.in_ok-count.ensures
    ∙ all_edges c.args.words c.args.upper.now c.args.lower.now c.args.corners.now (length c.args.corners.now - 1) c.count.new.self c.loop-number.edges.items c.loop-number.lines c.loop-number.number c.loop-number.invariant c.loop-number-test.false

pub returns-clause-joined : goal.returns-clause-joined
returns-clause-joined c = c.loop-number.invariant.joined
