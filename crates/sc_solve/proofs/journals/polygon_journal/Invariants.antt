use Rattle.std.proofs.Common.{◌≡◌, map, take}
use Rattle.sc_solve.specs.inside.Assembling.{named_pivot}
use Rattle.sc_solve.proofs.journals.polygon_journal.Given as goal

abbrev pub invariant-loop-pivot : goal.invariant-loop-pivot
invariant-loop-pivot l = l.journal.items ≡ map named_pivot (take l.pivot-index l.named)
