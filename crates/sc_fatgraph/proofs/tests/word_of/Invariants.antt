use Rattle.std.proofs.Common.{◌≡◌, ℕ, ◌<◌, length, get_or}
use Rattle.sc_theory.specs.Chains.{no_letter}
use Rattle.sc_fatgraph.proofs.tests.word_of.Given as goal

abbrev pub invariant-loop-byte : goal.invariant-loop-byte
invariant-loop-byte l = (length l.word ≡ l.byte-index) × ((k : ℕ) → k < length l.word → (get_or l.word k no_letter).number < 26)
