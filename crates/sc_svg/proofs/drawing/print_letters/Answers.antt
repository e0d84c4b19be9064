use Rattle.std.proofs.Common.{ℕ, ◌++◌, ap, ◌∙◌}
use Rattle.sc_words.specs.Spelling.{letter_byte}
use Rattle.sc_theory.specs.Chains.{letter}
use Rattle.sc_theory.specs.Fatgraphs.{label}
use Rattle.sc_shape.specs.Classes.{entry}
use Rattle.sc_svg.specs.Drawings.{letter_line}
use Rattle.sc_svg.proofs.Drawn.{lines_next}
use Rattle.sc_svg.proofs.drawing.print_letters.Goals as goal

pub loop-side-preserved : goal.loop-side-preserved
loop-side-preserved c =
    let g = c.args.sides.now in
    let xs = c.args.xs.now in
    let y : ℕ = c.args.y in
    let order = c.args.order.now in
    let i : ℕ = c.loop-side.side-index in
    lines_next (λ s. letter_line (entry xs s) y (letter_byte (letter c.args.chain.now (label g s)))) order i c.args.out.now.items c.loop-side.out.items c.print_letter.new.out.items
    c.loop-side-test.true c.loop-side.invariant
    (c.in_ok-print_letter.ensures ∙ ap (λ x. c.loop-side.out.items ++ letter_line (entry xs (entry order i)) y (letter_byte x)) c.letter-letter.ensures.letter)
