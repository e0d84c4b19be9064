use Rattle.std.proofs.Common.{map}
use Rattle.std.proofs.lemmas.Result.{err_from_is_err_and}
use Rattle.sc_fan.specs.Corners.{corner_said}
use Rattle.sc_fan.proofs.ReaderLaws.{corner_count_stops, corner_stops, corners_taken}
use Rattle.sc_fan.proofs.reading.read_corners.Goals as goal

pub returns-in_err-count : goal.returns-in_err-count
returns-in_err-count c =
    let p = err_from_is_err_and c.from_residual.result c.from_residual.ensures.1 in
    rw (p.1, p.2) (corner_count_stops c.args.lines.now c.in_err-count.field-0.0 c.in_err-count.ensures)

pub returns-in_err-corners : goal.returns-in_err-corners
returns-in_err-corners c =
    let p = err_from_is_err_and c.from_residual-in_err-corners.result c.from_residual-in_err-corners.ensures.1 in
    rw (p.1, p.2) (corner_stops c.args.lines.now c.in_ok-count.count c.count.new.self c.in_ok-count.ensures c.in_err-corners.field-0.0 c.in_err-corners.ensures)

pub returns : goal.returns
returns c = corners_taken c.args.lines.now c.in_ok-count.count c.count.new.self c.in_ok-count.ensures (map corner_said c.in_ok-corners.corners.items) c.read_corner_lines.new.lines c.in_ok-corners.ensures
