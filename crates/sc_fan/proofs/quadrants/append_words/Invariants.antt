use Rattle.std.proofs.Common.{◌≡◌, ◌++◌, take}
use Rattle.sc_fan.proofs.quadrants.append_words.Given as goal

abbrev pub invariant-loop-entry : goal.invariant-loop-entry
invariant-loop-entry l = l.to.items ≡ l.fn.to.items ++ take l.entry-index l.words
