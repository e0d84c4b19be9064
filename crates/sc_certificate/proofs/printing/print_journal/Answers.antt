use Rattle.std.proofs.Common.{List, ℕ, map, length, codes}
use Rattle.std.proofs.lemmas.Result.{on_err_weaker}
use Rattle.sc_line.specs.Lines.{ended, text_of, count_line}
use Rattle.sc_line.proofs.PrintLaws.{front_part, then_part, on_err}
use Rattle.sc_certificate.specs.PivotLines.{pivot_line}
use Rattle.sc_certificate.proofs.printing.print_journal.Goals as goal

pub returns-in_err-print_count_line-clause-err : goal.returns-in_err-print_count_line-clause-err
returns-in_err-print_count_line-clause-err c =
    on_err _ (front_part c.args.out.now.items c.print_count_line.new.out.items (ended (count_line (codes "pivots") (length c.args.journal.now))) (text_of (map pivot_line c.args.journal.now)) c.in_err-print_count_line.ensures.err)

pub returns-clause-err : goal.returns-clause-err
returns-clause-err c =
    let first : List ℕ = ended (count_line (codes "pivots") (length c.args.journal.now)) in
    let rest : List ℕ = text_of (map pivot_line c.args.journal.now) in
    on_err_weaker c.print_pivot_lines.result
    (then_part c.args.out.now.items c.print_count_line.new.out.items c.print_pivot_lines.new.out.items first rest c.in_ok-print_count_line.ensures.ok)
    c.print_pivot_lines.ensures.err
