-- The weighted length of the chain of a direction.
use Rattle.std.proofs.Common.{ℕ, ◌≤◌, sym, subst}
use Rattle.sc_theory.specs.Chains.{Chain, weighted_length}
use Rattle.sc_chain.specs.declared.limits.TheConstants.{MAX_LENGTH}
use Rattle.sc_cone.specs.declared.Direction.{Direction}
use Rattle.sc_cone.specs.declared.Quadrant.{Quadrant}
use Rattle.sc_cone.specs.Cones.{chain_of}
use Rattle.sc_cone.proofs.Forms.{length_by_form}
use Rattle.sc_crossing.specs.Lengths.{IsLight}

module _ (q : Quadrant) (first second : Chain) (d : Direction) where
  -- a direction is light exactly where its chain is no longer than a chain may be
  pub chain_light : IsLight first second d → weighted_length (chain_of q first second d) ≤ MAX_LENGTH
  chain_light light = subst (λ (n : ℕ). n ≤ MAX_LENGTH) (sym (length_by_form q first second d)) light

  pub direction_light : weighted_length (chain_of q first second d) ≤ MAX_LENGTH → IsLight first second d
  direction_light light = subst (λ (n : ℕ). n ≤ MAX_LENGTH) (length_by_form q first second d) light
