use Rattle.std.proofs.Common.{ℕ, ◌<◌}
use Rattle.sc_prices.specs.Flaws.{HasStepFlaw}
use Rattle.sc_prices.proofs.vouching.first_end.Given as goal

abbrev pub invariant-loop-to : goal.invariant-loop-to
invariant-loop-to l = (j : ℕ) → j < l.to → ¬ HasStepFlaw l.chain l.list l.tables l.start l.from j
