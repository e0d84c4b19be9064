use Rattle.std.proofs.Common.{◌≡◌, take}
use Rattle.sc_text.proofs.chains.copy_words.Given as goal

abbrev pub invariant-loop-entry : goal.invariant-loop-entry
invariant-loop-entry l = l.copies.items ≡ take l.entry-index l.words
