use Rattle.std.proofs.Common.{ℕ, ◌<◌}
use Rattle.sc_fatgraph.specs.Flaws.{HasRangeFlaw}
use Rattle.sc_fatgraph.proofs.flaws.first_range_flaw.Given as goal

abbrev pub invariant-loop-s : goal.invariant-loop-s
invariant-loop-s l = (q : ℕ) → q < l.s → ¬ HasRangeFlaw l.chain l.sides q
