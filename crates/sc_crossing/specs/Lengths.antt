-- The weighted length of the chain of a direction.
use Rattle.std.specs.Prelude.{◌+◌, ◌*◌, ◌≤◌, unsigned_abs}
use Rattle.sc_theory.specs.Chains.{Chain, weighted_length}
use Rattle.sc_chain.specs.declared.limits.TheConstants.{MAX_LENGTH}
use Rattle.sc_cone.specs.declared.Direction.{Direction}

-- the chain of a direction, which has one weighted length in both quadrants, is no longer than a chain may be
abbrev pub IsLight : Chain → Chain → Direction → Type 0
IsLight first second d = unsigned_abs d.s * weighted_length first + unsigned_abs d.t * weighted_length second ≤ MAX_LENGTH
