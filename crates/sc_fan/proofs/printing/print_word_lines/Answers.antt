use Rattle.std.proofs.Common.{◌≡◌, ◌+◌, ◌++◌, map, take, drop, sym, subst}
use Rattle.sc_line.specs.Lines.{ended, text_of}
use Rattle.sc_text.specs.Words.{word_line}
use Rattle.sc_line.proofs.PrintLaws.{part_after, lines_at, on_err}
use Rattle.sc_fan.proofs.printing.print_word_lines.Goals as goal

pub print_word_line-requires : goal.print_word_line-requires
print_word_line-requires c = rw (← c.entry-item.is) at (c.requires c.loop-entry.entry-index c.entry-item.result c.loop-entry-test.true)

pub returns-in_err-print_word_line-clause-err : goal.returns-in_err-print_word_line-clause-err
returns-in_err-print_word_line-clause-err c =
    let i = c.loop-entry.entry-index in
    let entries = c.args.entries.now in
    let whole = subst (λ e. text_of (map word_line entries) ≡ text_of (map word_line (take i entries)) ++ (ended (word_line e) ++ text_of (map word_line (drop (i + 1) entries)))) (sym c.entry-item.is) (lines_at word_line entries i c.entry-item.result c.loop-entry-test.true) in
    on_err _ (part_after _ c.loop-entry.out.items _ _ _ _ _ c.loop-entry.invariant c.in_err-print_word_line.ensures.err whole)
