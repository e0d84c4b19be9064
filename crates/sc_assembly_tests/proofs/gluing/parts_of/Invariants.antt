use Rattle.std.proofs.Common.{◌≡◌, map, take}
use Rattle.sc_assembly_tests.proofs.gluing.parts_of.Given as goal

abbrev pub invariant-loop-walk : goal.invariant-loop-walk
invariant-loop-walk g l = map (λ part. part.polygon) l.parts.items ≡ map (λ walk. walk.now) (take l.walk-index l.walks)
