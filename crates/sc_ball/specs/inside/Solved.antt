-- Said by private functions alone: a direction of a quadrant that is solved: its value, with a list that is tight
-- there.
use Rattle.std.specs.Prelude.{◌≤◌, unsigned_abs}
use Rattle.sc_theory.specs.Chains.{Chain}
use Rattle.sc_chain.specs.declared.limits.TheConstants.{MAX_LENGTH}
use Rattle.sc_fraction.specs.Frac.{numerator, denominator}
use Rattle.sc_text.specs.ValueLines.{quotient_of}
use Rattle.sc_cone.specs.declared.Direction.{Direction}
use Rattle.sc_cone.specs.declared.Quadrant.{Quadrant}
use Rattle.sc_cone.specs.Cones.{chain_of, quadrant_chain}
use Rattle.sc_cone.specs.Values.{IsValueOf}
use Rattle.sc_cone.specs.Searches.{IsReached}
use Rattle.sc_crossing.specs.Lengths.{IsLight}
use Rattle.sc_fan.specs.Corners.{IsCornerValue}
use Rattle.sc_fan.specs.Fans.{IsListFor}
use Rattle.sc_ball.specs.declared.solved.Solved.{Solved}
use Rattle.sc_ball.specs.Solved.{seen}

-- the numbers of a direction are no larger than a chain may be long
pub record IsSmall (d : Direction) : Type 0 where
  pub first : unsigned_abs d.s ≤ MAX_LENGTH
  pub second : unsigned_abs d.t ≤ MAX_LENGTH

-- the list covers the quadrant's chain and is tight at the direction, which has this value. The numbers are such as a
-- fan may have
pub record IsSolvedIn (q : Quadrant) (first second : Chain) (s : Solved) : Type 0 where
  pub reached : IsReached q first second (seen s)
  pub value : IsValueOf (chain_of q first second s.reached.direction) (numerator s.value) (denominator s.value)
  pub light : IsLight first second s.reached.direction
  pub small : IsSmall s.reached.direction
  pub in_range : IsCornerValue (quotient_of s.value)
  pub list : IsListFor (quadrant_chain q first second) s.reached.list
