use Rattle.std.proofs.Common.{◌∷◌, pos, get_or, rules}
use Rattle.sc_whole.specs.Spelling.{spelling}
use Rattle.sc_line.specs.Printing.{AppendsPart}
use Rattle.sc_line.proofs.PrintLaws.{part_after, pieces_at, on_err}
use Rattle.sc_text.proofs.printing.print_numbers.Goals as goal

pub returns-in_err-print_number-clause-err : goal.returns-in_err-print_number-clause-err
returns-in_err-print_number-clause-err c =
    let i = c.loop-number.number-index in
    let numbers = c.args.numbers.now in
    let part : AppendsPart c.loop-number.out.items c.print_number.new.out.items (32 ∷ spelling (pos (get_or numbers i 0))) = search rules in
    on_err _ (part_after _ c.loop-number.out.items _ _ _ _ _ c.loop-number.invariant part (pieces_at (λ n. 32 ∷ spelling (pos n)) numbers i 0 c.loop-number-test.true))
