use Rattle.std.proofs.Common.{◌+◌, map, take, drop, get_or, pos, FitsSigned, to_z-of_z, rules}
use Rattle.std.specs.Int.{w128}
use Rattle.sc_line.specs.Lines.{text_of}
use Rattle.sc_text.specs.PriceLines.{base_line}
use Rattle.sc_line.proofs.PrintLaws.{part_after, lines_at, on_err}
use Rattle.sc_certificate.proofs.printing.print_base_lines.Goals as goal

pub returns-in_err-print_base_line-clause-err : goal.returns-in_err-print_base_line-clause-err
returns-in_err-print_base_line-clause-err c =
    let i = c.loop-price.price-index in
    let prices = c.args.prices.now in
    let fits : FitsSigned w128 (get_or prices i (pos 0)) = search rules in
    let part = simp (to_z-of_z fits) at c.in_err-print_base_line.ensures.err in
    on_err _
    (part_after _ c.loop-price.out.items _ (text_of (map base_line (take i prices))) _ (text_of (map base_line (drop (i + 1) prices))) _ c.loop-price.invariant
    part (lines_at base_line prices i (pos 0) c.loop-price-test.true))
