use Rattle.std.proofs.Common.{length}
use Rattle.sc_line.specs.Lines.{parts}
use Rattle.sc_line.proofs.TextLaws.{IsReadUpTo}
use Rattle.sc_line.proofs.text.read_by_lines.Given as goal

abbrev pub invariant-loop-line : goal.invariant-loop-line
invariant-loop-line g l = IsReadUpTo (g.P.LinePart.due l.fn.context l.fn.part) l.bytes (g.P.LinePart.due l.context l.part) (parts l.rest) l.number

abbrev pub decreases-loop-line : goal.decreases-loop-line
decreases-loop-line g l = length l.rest
