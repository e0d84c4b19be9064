use Rattle.std.proofs.Common.{◌+◌, map, take, drop}
use Rattle.sc_line.specs.Lines.{text_of}
use Rattle.sc_text.specs.Sides.{side_line}
use Rattle.sc_line.proofs.PrintLaws.{part_after, lines_at, on_err}
use Rattle.sc_text.proofs.printing.print_side_lines.Goals as goal

pub returns-in_err-print_side_line-clause-err : goal.returns-in_err-print_side_line-clause-err
returns-in_err-print_side_line-clause-err c =
    let i = c.loop-side.side-index in
    let sides = c.args.sides.now in
    on_err _ (part_after _ c.loop-side.out.items _ (text_of (map side_line (take i sides))) _ (text_of (map side_line (drop (i + 1) sides))) _ c.loop-side.invariant c.in_err-print_side_line.ensures.err (lines_at side_line sides i _ c.loop-side-test.true))
