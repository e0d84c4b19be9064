use Rattle.std.proofs.Common.{◌≡◌, ◌++◌, take}
use Rattle.std.specs.List.{flat_map}
use Rattle.sc_theory.specs.Prices.{pairs}
use Rattle.sc_crossing.specs.Neighbours.{reached_of}
use Rattle.sc_ball_refusal.specs.inside.Texts.{reached_text}
use Rattle.sc_ball_refusal.proofs.search.print_reached.Given as goal

abbrev pub invariant-loop-entry : goal.invariant-loop-entry
invariant-loop-entry l = l.out.items ≡ l.fn.out.items ++ flat_map (λ r. reached_text (pairs l.chain) (reached_of r)) (take l.entry-index l.reached)
