use Rattle.std.proofs.Common.{◌≡◌, ◌++◌, take, map}
use Rattle.sc_line.specs.Lines.{text_of}
use Rattle.sc_text.specs.Words.{word_line}
use Rattle.sc_fan.proofs.printing.print_word_lines.Given as goal

abbrev pub invariant-loop-entry : goal.invariant-loop-entry
invariant-loop-entry l = l.out.items ≡ l.fn.out.items ++ text_of (map word_line (take l.entry-index l.entries))
