use Rattle.std.proofs.Common.{length}
use Rattle.sc_shape.specs.Classes.{entry}
use Rattle.sc_shape.specs.inside.Classes.{AreClassesBelow}
use Rattle.sc_shape.proofs.classes.spread_all.Given as goal

abbrev pub invariant-loop-start : goal.invariant-loop-start
invariant-loop-start l = AreClassesBelow (entry l.first) (entry l.second) (length l.first) l.marks l.least l.start
