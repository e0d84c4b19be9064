use Rattle.std.proofs.Common.{◌≡◌, ◌++◌, take}
use Rattle.sc_text.specs.Words.{spelled}
use Rattle.sc_text.proofs.printing.print_letters.Given as goal

abbrev pub invariant-loop-letter : goal.invariant-loop-letter
invariant-loop-letter l = l.out.items ≡ l.fn.out.items ++ spelled (take l.letter-index l.letters)
