use Rattle.std.proofs.Common.{◌≡◌, ◌++◌, take}
use Rattle.sc_cone.specs.Cones.{inverses}
use Rattle.sc_fan.proofs.quadrants.append_inverses.Given as goal

abbrev pub invariant-loop-entry : goal.invariant-loop-entry
invariant-loop-entry l = l.to.items ≡ l.fn.to.items ++ inverses (take l.entry-index l.words)
