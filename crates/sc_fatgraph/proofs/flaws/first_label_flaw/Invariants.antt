use Rattle.std.proofs.Common.{ℕ, ◌<◌}
use Rattle.sc_fatgraph.specs.Flaws.{HasLabelFlaw}
use Rattle.sc_fatgraph.proofs.flaws.first_label_flaw.Given as goal

abbrev pub invariant-loop-s : goal.invariant-loop-s
invariant-loop-s l = (q : ℕ) → q < l.s → ¬ HasLabelFlaw l.chain l.sides q
