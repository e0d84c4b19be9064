use Rattle.std.proofs.Common.{ℕ, ◌<◌}
use Rattle.sc_fatgraph.specs.Flaws.{HasMateFlaw}
use Rattle.sc_fatgraph.proofs.flaws.first_mate_flaw.Given as goal

abbrev pub invariant-loop-s : goal.invariant-loop-s
invariant-loop-s l = (q : ℕ) → q < l.s → ¬ HasMateFlaw l.sides q
