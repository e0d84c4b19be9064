-- The bytes of the drawing of a fan.
use Rattle.std.specs.Prelude.{◌≡◌, ◌⊎◌, ℕ, ◌*◌, ◌<◌, ◌≤◌, Bool, true, false, nat_lt, max, List, [], ◌∷◌, ◌++◌, All, Contains, codes, ℤ, neg_ℤ, unsigned_abs}
use Rattle.sc_whole.specs.Spelling.{spelling}
use Rattle.sc_svg.specs.declared.extent.Extent.{Extent}
use Rattle.sc_svg.specs.declared.point.Point.{Point}
use Rattle.sc_svg.specs.declared.spot.Spot.{Spot}
use Rattle.sc_svg.specs.Drawings.{joined, last_line}
use Rattle.sc_svg.specs.Points.{cut, opposite, moved}

-- the greater size of the two numbers of a corner's direction
abbrev pub breadth : Spot → ℕ
breadth c = max (unsigned_abs c.s) (unsigned_abs c.t)

-- whether a corner has a point: its value is above 0
abbrev pub has_point : Spot → Bool
has_point c = nat_lt 0 (unsigned_abs c.num)

-- the size of the point of a corner: that of the greater coordinate of (s * den / num, t * den / num)
abbrev pub size_of : Spot → Extent
size_of c = record { over = breadth c * unsigned_abs c.den; under = unsigned_abs c.num }

abbrev pub IsAtMost : Extent → Extent → Type 0
IsAtMost x y = x.over * y.under ≤ y.over * x.under

-- the greatest size of the corners' points, and 0 where there is none
pub record IsGreatest (corners : List Spot) (k : Extent) : Type 0 where
  pub fraction : 0 < k.under
  pub greatest : All (λ c. has_point c ≡ true → IsAtMost (size_of c) k) corners
  pub taken : (k.over ≡ 0) ⊎ ((c : Spot) × Contains corners c × (has_point c ≡ true) × (size_of c ≡ k))

-- the coordinate z * den / num of a corner's point as it is drawn: 900 times its part of the greatest size k, cut
-- toward 0
abbrev pub drawn : Extent → Spot → ℤ → ℤ
drawn k c z = cut z (900 * unsigned_abs c.den * k.under) (unsigned_abs c.num * k.over)

-- the drawn point of a corner with a point: y runs down in a drawing
abbrev pub point_of : Extent → Spot → Point
point_of k c = record { x = drawn k c c.s; y = neg_ℤ (drawn k c c.t) }

-- the way along the direction of a corner, out of the drawing
abbrev pub arrow_of : Spot → Point
arrow_of c = record { x = cut c.s 1800 (breadth c); y = neg_ℤ (cut c.t 1800 (breadth c)) }

-- the line between two points
abbrev pub line_of : Point → Point → List ℕ
line_of p q =
    joined (codes "<line x1=\"" ∷ spelling p.x ∷ codes "\" y1=\"" ∷ spelling p.y ∷ codes "\" x2=\"" ∷ spelling q.x ∷ codes "\" y2=\"" ∷ spelling q.y ∷ codes "\" stroke=\"black\" stroke-width=\"4\"/>\n" ∷ [])

-- that line, and the same on the other side of the origin
abbrev pub both_lines : Point → Point → List ℕ
both_lines p q = line_of p q ++ line_of (opposite p) (opposite q)

-- from the point of a corner out along the direction of another
abbrev pub ray_lines : Extent → Spot → Spot → List ℕ
ray_lines k c d = both_lines (point_of k c) (moved (point_of k c) (arrow_of d))

-- the edge between two neighbouring corners, by which of them has a point
abbrev pub edge_by : Bool → Bool → Extent → Spot → Spot → List ℕ
edge_by true true k c d = both_lines (point_of k c) (point_of k d)
edge_by true false k c d = ray_lines k c d
edge_by false true k c d = ray_lines k d c
edge_by false false k c d = []

abbrev pub edge_lines : Extent → Spot → Spot → List ℕ
edge_lines k c d = edge_by (has_point c) (has_point d) k c d

-- the edges from a corner through those that follow it, each to the next
abbrev pub edges_from : Extent → Spot → List Spot → List ℕ
edges_from k c [] = []
edges_from k c (d ∷ ds) = edge_lines k c d ++ edges_from k d ds

abbrev pub edges_of : Extent → List Spot → List ℕ
edges_of k [] = []
edges_of k (c ∷ cs) = edges_from k c cs

-- the first lines: the frame and the two axes
abbrev pub frame : List ℕ
frame =
    codes "<svg xmlns=\"http://www.w3.org/2000/svg\" viewBox=\"-1000 -1000 2000 2000\">\n<line x1=\"-1000\" y1=\"0\" x2=\"1000\" y2=\"0\" stroke=\"gray\"/>\n<line x1=\"0\" y1=\"-1000\" x2=\"0\" y2=\"1000\" stroke=\"gray\"/>\n"

-- the bytes are the drawing of the corners
pub record IsFanDrawing (corners : List Spot) (bytes : List ℕ) : Type 0 where
  pub size : Extent
  pub size_is : IsGreatest corners size
  pub text : bytes ≡ frame ++ edges_of size corners ++ last_line
