use Rattle.std.proofs.Common.{◌≡◌, ◌≤◌, ◌++◌, map, length, pos}
use Rattle.sc_whole.specs.Spelling.{spelling}
use Rattle.sc_chain.specs.declared.limits.TheConstants.{MAX_POSITIONS}
use Rattle.sc_certificate.proofs.pivots.walk_of.Given as goal

abbrev pub invariant-loop-field : goal.invariant-loop-field
invariant-loop-field l = (l.fn.fields ≡ map (λ i. spelling (pos i)) l.walk.items ++ l.fields) × (length l.walk.items ≤ MAX_POSITIONS)

abbrev pub decreases-loop-field : goal.decreases-loop-field
decreases-loop-field l = length l.fields
