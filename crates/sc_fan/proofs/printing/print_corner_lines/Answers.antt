use Rattle.std.proofs.Common.{ap}
use Rattle.sc_fan.specs.declared.corner.Corner.{Corner}
use Rattle.sc_fan.specs.Corners.{corner_said, corner_line}
use Rattle.sc_line.proofs.PrintLaws.{on_err}
use Rattle.sc_certificate.proofs.PrintedLines.{lines_more, lines_part}
use Rattle.sc_fan.proofs.printing.print_corner_lines.Goals as goal

pub returns-in_err-print_corner_line-clause-err : goal.returns-in_err-print_corner_line-clause-err
returns-in_err-print_corner_line-clause-err c =
    let corner = c.corner-item.result in
    on_err _
    (lines_part (λ d. corner_line (corner_said d)) c.args.corners.now c.loop-corner.corner-index corner (corner_line (corner_said corner)) c.loop-corner-test.true
    (ap (λ (d : Corner). corner_line (corner_said d)) c.corner-item.is)
    c.args.out.now.items c.loop-corner.out.items c.print_corner_line.new.out.items c.loop-corner.invariant c.in_err-print_corner_line.ensures.err)

pub loop-corner-preserved : goal.loop-corner-preserved
loop-corner-preserved c =
    let corner = c.corner-item.result in
    lines_more (λ d. corner_line (corner_said d)) c.args.corners.now c.loop-corner.corner-index corner (corner_line (corner_said corner)) c.loop-corner-test.true
    (ap (λ (d : Corner). corner_line (corner_said d)) c.corner-item.is)
    c.args.out.now.items c.loop-corner.out.items c.print_corner_line.new.out.items c.loop-corner.invariant c.in_ok-print_corner_line.ensures.ok
