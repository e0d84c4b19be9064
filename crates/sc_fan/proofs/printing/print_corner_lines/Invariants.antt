use Rattle.std.proofs.Common.{◌≡◌, ◌++◌, take, map}
use Rattle.sc_line.specs.Lines.{text_of}
use Rattle.sc_fan.specs.Corners.{corner_said, corner_line}
use Rattle.sc_fan.proofs.printing.print_corner_lines.Given as goal

abbrev pub invariant-loop-corner : goal.invariant-loop-corner
invariant-loop-corner l = l.out.items ≡ l.fn.out.items ++ text_of (map (λ c. corner_line (corner_said c)) (take l.corner-index l.corners))
