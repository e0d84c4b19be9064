-- Directions s, t with s of at least 0: their two quadrants, and their order by turning left.
use Rattle.std.specs.Prelude.{◌≡◌, ℕ, ℤ, pos, negsuc, ◌+ℤ◌, ◌-ℤ◌, ◌*ℤ◌, ◌≤ℤ◌, ◌<ℤ◌, unsigned_abs}
use Rattle.std.specs.Int.{IsGcd}
use Rattle.sc_cone.specs.declared.Direction.{Direction}
use Rattle.sc_cone.specs.declared.Quadrant.{Quadrant}
use Rattle.sc_cone.specs.declared.Quadrant.TheVariants.{Lower, Upper}

-- the ends of the two quadrants
abbrev pub down : Direction
down = record { s = pos 0; t = negsuc 0 }

abbrev pub right : Direction
right = record { s = pos 1; t = pos 0 }

abbrev pub up : Direction
up = record { s = pos 0; t = pos 1 }

abbrev pub first_end : Quadrant → Direction
first_end Lower = down
first_end Upper = right

abbrev pub last_end : Quadrant → Direction
last_end Lower = right
last_end Upper = up

-- s is at least 0, and t at most 0 in the lower quadrant and at least 0 in the upper one
abbrev pub IsIn : Quadrant → Direction → Type 0
IsIn Lower d = (pos 0 ≤ℤ d.s) × (d.t ≤ℤ pos 0)
IsIn Upper d = (pos 0 ≤ℤ d.s) × (pos 0 ≤ℤ d.t)

-- 1 is the greatest common divisor of s and t
abbrev pub IsPrimitive : Direction → Type 0
IsPrimitive d = IsGcd (unsigned_abs d.s) (unsigned_abs d.t) 1

-- the area that two directions span: above 0 where the second is to the left of the first
abbrev pub cross : Direction → Direction → ℤ
cross d e = d.s *ℤ e.t -ℤ d.t *ℤ e.s

abbrev pub TurnsLeft : Direction → Direction → Type 0
TurnsLeft d e = pos 0 <ℤ cross d e

-- in the cone from d to e, where e is to the left of d: nowhere to the right of d nor to the left of e
pub record IsBetween (d e x : Direction) : Type 0 where
  pub after : pos 0 ≤ℤ cross d x
  pub before : pos 0 ≤ℤ cross x e

-- a multiple of x is a sum of multiples of d and e
pub record IsCombination (k i j : ℕ) (d e x : Direction) : Type 0 where
  pub first : pos k *ℤ x.s ≡ pos i *ℤ d.s +ℤ pos j *ℤ e.s
  pub second : pos k *ℤ x.t ≡ pos i *ℤ d.t +ℤ pos j *ℤ e.t
