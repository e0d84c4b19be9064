use Rattle.std.proofs.Common.{◌≡◌, ◌++◌, take}
use Rattle.std.specs.List.{flat_map}
use Rattle.sc_words.specs.Spelling.{letter_byte}
use Rattle.sc_theory.specs.Chains.{letter}
use Rattle.sc_theory.specs.Fatgraphs.{label}
use Rattle.sc_shape.specs.Classes.{entry}
use Rattle.sc_svg.specs.Drawings.{letter_line}
use Rattle.sc_svg.proofs.drawing.print_letters.Given as goal

abbrev pub invariant-loop-side : goal.invariant-loop-side
invariant-loop-side l = l.out.items ≡ l.fn.out.items ++ flat_map (λ s. letter_line (entry l.xs s) l.y (letter_byte (letter l.chain (label l.sides s)))) (take l.side-index l.order)
