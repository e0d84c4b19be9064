use Rattle.std.proofs.Common.{◌≡◌, ◌++◌, map, take, drop}
use Rattle.sc_two.specs.Behind.{moved}
use Rattle.sc_two.proofs.two.move_down.Given as goal

abbrev pub invariant-loop-raw : goal.invariant-loop-raw
invariant-loop-raw l = l.read ≡ map (moved l.by) (take l.raw-index l.initial.read) ++ drop l.raw-index l.initial.read
