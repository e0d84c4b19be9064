use Rattle.std.proofs.Common.{◌≡◌, ◌-◌, take}
use Rattle.sc_theory.specs.Chains.{positions}
use Rattle.sc_text.proofs.words.room_behind.Given as goal

abbrev pub invariant-loop-entry : goal.invariant-loop-entry
invariant-loop-entry l = l.room ≡ l.letters - positions (take l.entry-index l.words)
