use Rattle.std.proofs.Common.{ℕ, ◌<◌}
use Rattle.sc_fatgraph.specs.Flaws.{HasCountFlaw}
use Rattle.sc_fatgraph.proofs.flaws.first_count_flaw.Given as goal

abbrev pub invariant-loop-w : goal.invariant-loop-w
invariant-loop-w l = (q : ℕ) → q < l.w → ¬ HasCountFlaw l.chain l.n l.sides q
