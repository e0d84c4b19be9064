use Rattle.std.proofs.Common.{◌≡◌, ◌++◌, take, map}
use Rattle.sc_line.specs.Lines.{text_of}
use Rattle.sc_text.specs.Sides.{side_line}
use Rattle.sc_text.proofs.printing.print_side_lines.Given as goal

abbrev pub invariant-loop-side : goal.invariant-loop-side
invariant-loop-side l = l.out.items ≡ l.fn.out.items ++ text_of (map side_line (take l.side-index l.sides))
