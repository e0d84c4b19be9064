use Rattle.std.proofs.Common.{◌≡◌, take}
use Rattle.sc_solve.specs.inside.Assembling.{valued}
use Rattle.sc_solve.proofs.assembling.valued_parts.Given as goal

abbrev pub invariant-loop-row : goal.invariant-loop-row
invariant-loop-row l = l.parts.items ≡ valued (take l.row l.items) (take l.row l.values)
