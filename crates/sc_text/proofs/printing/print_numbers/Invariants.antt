use Rattle.std.proofs.Common.{◌≡◌, ◌++◌, take}
use Rattle.sc_text.specs.inside.Printing.{numbers_bytes}
use Rattle.sc_text.proofs.printing.print_numbers.Given as goal

abbrev pub invariant-loop-number : goal.invariant-loop-number
invariant-loop-number l = l.out.items ≡ l.fn.out.items ++ numbers_bytes (take l.number-index l.numbers)
