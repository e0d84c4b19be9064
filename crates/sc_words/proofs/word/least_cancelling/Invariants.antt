use Rattle.std.proofs.Common.{◌≡◌, ℕ, ◌<◌, false}
use Rattle.sc_theory.specs.Places.{cancels_next}
use Rattle.sc_words.proofs.word.least_cancelling.Given as goal

abbrev pub invariant-loop-place : goal.invariant-loop-place
invariant-loop-place l = (k : ℕ) → k < l.place → cancels_next l.word k ≡ false
