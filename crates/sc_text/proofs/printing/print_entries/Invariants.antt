use Rattle.std.proofs.Common.{◌≡◌, ◌++◌, take}
use Rattle.sc_text.specs.inside.Printing.{entries_bytes}
use Rattle.sc_text.proofs.printing.print_entries.Given as goal

abbrev pub invariant-loop-entry : goal.invariant-loop-entry
invariant-loop-entry l = l.out.items ≡ l.fn.out.items ++ entries_bytes (take l.entry-index l.entries)
