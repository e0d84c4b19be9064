-- Points of a drawing.
use Rattle.std.specs.Prelude.{ℕ, suc, ◌*◌, ◌/◌, ◌<◌, ◌^◌, ℤ, pos, negsuc, ◌+ℤ◌, neg_ℤ, unsigned_abs}
use Rattle.sc_svg.specs.declared.point.Point.{Point}

-- z * factor / divisor, cut toward 0
abbrev pub cut : ℤ → ℕ → ℕ → ℤ
cut (pos n) factor divisor = pos (n * factor / divisor)
cut (negsuc n) factor divisor = neg_ℤ (pos (suc n * factor / divisor))

-- the point on the other side of the origin
abbrev pub opposite : Point → Point
opposite p = record { x = neg_ℤ p.x; y = neg_ℤ p.y }

-- the point to which the way w leads from p
abbrev pub moved : Point → Point → Point
moved p w = record { x = p.x +ℤ w.x; y = p.y +ℤ w.y }

-- the sizes of both numbers are below 2 to the n
pub record IsWithin (n : ℕ) (p : Point) : Type 0 where
  pub x_small : unsigned_abs p.x < 2 ^ n
  pub y_small : unsigned_abs p.y < 2 ^ n
