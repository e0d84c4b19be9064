use Rattle.std.proofs.Common.{ap}
use Rattle.sc_certificate.specs.PivotLines.{pivot_line}
use Rattle.sc_line.proofs.PrintLaws.{on_err}
use Rattle.sc_certificate.proofs.PrintedLines.{lines_part}
use Rattle.sc_certificate.proofs.printing.print_pivot_lines.Goals as goal

pub returns-in_err-print_pivot_line-clause-err : goal.returns-in_err-print_pivot_line-clause-err
returns-in_err-print_pivot_line-clause-err c =
    on_err _
    (lines_part pivot_line c.args.journal.now c.loop-pivot.pivot-index _ _ c.loop-pivot-test.true (ap pivot_line c.pivot-item.is)
    c.args.out.now.items c.loop-pivot.out.items c.print_pivot_line.new.out.items c.loop-pivot.invariant c.in_err-print_pivot_line.ensures.err)
