use Rattle.std.proofs.Common.{ℕ, ◌<◌}
use Rattle.sc_fatgraph.specs.Flaws.{HasLetterFlaw}
use Rattle.sc_fatgraph.proofs.flaws.first_letter_flaw.Given as goal

abbrev pub invariant-loop-s : goal.invariant-loop-s
invariant-loop-s l = (q : ℕ) → q < l.s → ¬ HasLetterFlaw l.chain l.sides q
