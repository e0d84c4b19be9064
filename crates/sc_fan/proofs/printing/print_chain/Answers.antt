use Rattle.std.proofs.Common.{◌++◌, List, [], map, length, refl, sym, ap, append-nil}
use Rattle.std.proofs.lemmas.Result.{on_err_weaker}
use Rattle.sc_line.specs.Lines.{ended, text_of}
use Rattle.sc_line.specs.Printing.{AppendsPart}
use Rattle.sc_text.specs.Words.{word_line}
use Rattle.sc_line.specs.Lines.{count_line}
use Rattle.sc_line.proofs.PrintLaws.{part_after, on_err}
use Rattle.sc_fan.proofs.printing.print_chain.Goals as goal

pub returns-in_err-print_count_line-clause-err : goal.returns-in_err-print_count_line-clause-err
returns-in_err-print_count_line-clause-err c =
    on_err _ (part_after _ c.args.out.now.items _ [] _ (text_of (map word_line c.args.entries.now)) _ (sym (append-nil c.args.out.now.items)) c.in_err-print_count_line.ensures.err refl)

pub returns-clause-err : goal.returns-clause-err
returns-clause-err c =
    on_err_weaker c.print_word_lines.result
    (λ (part : AppendsPart c.print_count_line.new.out.items c.print_word_lines.new.out.items (text_of (map word_line c.args.entries.now))).
    part_after _ c.print_count_line.new.out.items _ (ended (count_line c.args.name.now (length c.args.entries.now))) _ [] _ c.in_ok-print_count_line.ensures.ok part (ap (λ (t : List _). ended (count_line c.args.name.now (length c.args.entries.now)) ++ t) (sym (append-nil (text_of (map word_line c.args.entries.now))))))
    c.print_word_lines.ensures.err
