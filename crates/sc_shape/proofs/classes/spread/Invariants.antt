use Rattle.std.proofs.Common.{◌+◌, ◌-◌, length, not}
use Rattle.std.specs.List.{count_by}
use Rattle.sc_shape.specs.Classes.{entry}
use Rattle.sc_shape.specs.inside.Classes.{IsMarked}
use Rattle.sc_shape.proofs.Spreading.{Spreads}
use Rattle.sc_shape.proofs.classes.spread.Given as goal

abbrev pub invariant-loop-done : goal.invariant-loop-done
invariant-loop-done l = Spreads (entry l.first) (entry l.second) (length l.first) l.fn.marks l.fn.least l.start l.marks l.least l.reached.items l.done × IsMarked l.marks l.start

abbrev pub decreases-loop-done : goal.decreases-loop-done
decreases-loop-done l = count_by not l.marks + length l.reached.items - l.done
