use Rattle.std.proofs.Common.{◌≡◌, map, take}
use Rattle.sc_assembly.specs.Multiples.{AreCounts}
use Rattle.sc_assembly_tests.proofs.counting.valued_parts.Given as goal

abbrev pub invariant-loop-place : goal.invariant-loop-place
invariant-loop-place g l = record {
  polygons : map (λ part. part.polygon) l.parts.items ≡ map (λ walk. walk.now) (take l.place l.walks);
  counts : AreCounts l.n l.parts.items (take l.place l.counts);
}
