use Rattle.std.proofs.Common.{◌≡◌, ◌++◌, take}
use Rattle.sc_cone.specs.Cones.{times}
use Rattle.sc_crossing.proofs.chains.append_times.Given as goal

abbrev pub invariant-loop-entry : goal.invariant-loop-entry
invariant-loop-entry l = l.to.items ≡ l.fn.to.items ++ times l.factor (take l.entry-index l.words)
