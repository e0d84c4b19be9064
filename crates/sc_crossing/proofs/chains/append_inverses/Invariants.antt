use Rattle.std.proofs.Common.{◌≡◌, ◌++◌, take}
use Rattle.sc_cone.specs.Cones.{times, inverses}
use Rattle.sc_crossing.proofs.chains.append_inverses.Given as goal

abbrev pub invariant-loop-entry : goal.invariant-loop-entry
invariant-loop-entry l = l.to.items ≡ l.fn.to.items ++ times l.factor (inverses (take l.entry-index l.words))
