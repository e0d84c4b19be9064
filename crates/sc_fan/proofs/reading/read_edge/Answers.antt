use Rattle.std.proofs.Common.{◌≡◌, ◌+◌, ◌∙◌, ℕ, suc, ap, map, get_or, refl, arith}
use Rattle.std.proofs.lemmas.Result.{err_from_is_err_and}
use Rattle.sc_cone.specs.Fans.{no_corner}
use Rattle.sc_fan.specs.Corners.{corner_said}
use Rattle.sc_fan.specs.inside.Printing.{edge_pairs}
use Rattle.sc_fan.proofs.Ranges.{pairs_at, corner_at}
use Rattle.sc_fan.proofs.ReaderLaws.{number_stops, list_stops, numbered_taken}
use Rattle.sc_fan.proofs.reading.read_edge.Goals as goal

pub returns-in_err-edge-clause-told : goal.returns-in_err-edge-clause-told
returns-in_err-edge-clause-told c =
    let ps = edge_pairs c.args.upper.now c.args.lower.now c.args.corners.now c.args.number in
    let p = err_from_is_err_and c.from_residual.result c.from_residual.ensures.1 in
    rw (p.1, p.2) (number_stops c.args.words c.args.number ps ps refl c.args.lines.now c.in_err-edge.field-0.0 c.in_err-edge.ensures)

pub returns-in_err-list-clause-told : goal.returns-in_err-list-clause-told
returns-in_err-list-clause-told c =
    let ps = edge_pairs c.args.upper.now c.args.lower.now c.args.corners.now c.args.number in
    let same = pairs_at c.args.upper.now c.args.lower.now c.args.corners.now c.args.number c.index-corners-number.result c.pairs_behind.result.now (omega (arith, c.requires)) c.index-corners-number.is c.pairs_behind.ensures in
    let p = err_from_is_err_and c.from_residual-in_err-list.result c.from_residual-in_err-list.ensures.1 in
    rw (p.1, p.2) (list_stops c.args.words c.args.number c.pairs_behind.result.now ps same c.args.lines.now c.edge.new.self c.in_ok-edge.ensures c.in_err-list.field-0.0 c.in_err-list.ensures)

pub returns-clause-told : goal.returns-clause-told
returns-clause-told c =
    let ps = edge_pairs c.args.upper.now c.args.lower.now c.args.corners.now c.args.number in
    let same = pairs_at c.args.upper.now c.args.lower.now c.args.corners.now c.args.number c.index-corners-number.result c.pairs_behind.result.now (omega (arith, c.requires)) c.index-corners-number.is c.pairs_behind.ensures in
    numbered_taken c.args.words c.args.number c.pairs_behind.result.now ps same c.args.lines.now c.edge.new.self c.in_ok-edge.ensures c.in_ok-list.list c.read_list.new.lines c.in_ok-list.ensures

pub returns-clause-from : goal.returns-clause-from
returns-clause-from c = corner_at c.args.corners.now c.args.number c.index-corners-number.result (omega (arith, c.requires)) c.index-corners-number.is

pub returns-clause-to : goal.returns-clause-to
returns-clause-to c =
    let one : c.args.number + 1 ≡ suc c.args.number = omega arith in
    corner_at c.args.corners.now (c.args.number + 1) c.index-corners-number-2.result c.requires c.index-corners-number-2.is ∙ ap (λ (k : ℕ). get_or (map corner_said c.args.corners.now) k no_corner) one
