use Rattle.std.proofs.Common.{◌≡◌, ◌++◌, take, map}
use Rattle.sc_line.specs.Lines.{text_of}
use Rattle.sc_certificate.specs.PivotLines.{pivot_line}
use Rattle.sc_certificate.proofs.printing.print_pivot_lines.Given as goal

abbrev pub invariant-loop-pivot : goal.invariant-loop-pivot
invariant-loop-pivot l = l.out.items ≡ l.fn.out.items ++ text_of (map pivot_line (take l.pivot-index l.journal))
