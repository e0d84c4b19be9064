use Rattle.std.proofs.Common.{◌≡◌, take}
use Rattle.sc_line.specs.Lines.{text_of}
use Rattle.sc_app.specs.Shape.{lines_from}
use Rattle.sc_app.proofs.shape.text_of_components.Given as goal

abbrev pub invariant-loop-number : goal.invariant-loop-number
invariant-loop-number l = l.text.items ≡ text_of (lines_from 0 (take l.number l.components))
