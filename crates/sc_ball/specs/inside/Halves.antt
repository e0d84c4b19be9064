-- Said by private functions alone: halves of a fan, and the arcs that lead to them.
use Rattle.std.specs.Prelude.{◌≡◌, ℕ, suc, ◌*◌, ◌≤◌, List, [], ◌∷◌, ◌++◌, map, length, Option, Some, None, All}
use Rattle.std.specs.Option.{option_map, option_to_list}
use Rattle.sc_theory.specs.Chains.{Chain}
use Rattle.sc_theory.specs.Prices.{Prices}
use Rattle.sc_chain.specs.declared.limits.TheConstants.{MAX_LENGTH}
use Rattle.sc_cone.specs.declared.Quadrant.{Quadrant}
use Rattle.sc_cone.specs.Directions.{IsIn, IsPrimitive, TurnsLeft}
use Rattle.sc_cone.specs.Cones.{quadrant_chain}
use Rattle.sc_cone.specs.Fans.{Corner, Edge, IsHalf}
use Rattle.sc_cone.specs.Searches.{Reached, reached, IsReached}
use Rattle.sc_fan.specs.Corners.{corner_said, IsCornerInRange}
use Rattle.sc_fan.specs.Fans.{IsListFor}
use Rattle.sc_fan.specs.FanRead.{edge_said}
use Rattle.sc_ball.specs.declared.solved.Solved.{Solved}
use Rattle.sc_ball.specs.declared.arcs.Arc.{Arc}
use Rattle.sc_ball.specs.declared.arcs.Half.{Half}
use Rattle.sc_ball.specs.inside.Neighbours.{IsClosed}
use Rattle.sc_ball.specs.Solved.{seen}
use Rattle.sc_ball.specs.inside.Solved.{IsSolvedIn}
use Rattle.sc_ball.specs.inside.Arcs.{AreArcTo}

-- at most as many entries as there are pairs of coordinates
abbrev pub most_entries : ℕ
most_entries = suc MAX_LENGTH * suc MAX_LENGTH

-- the edge with another end
abbrev pub ended_at : Corner → Edge → Edge
ended_at c e = record { from = e.from; to = c; list = e.list }

-- the entry of a search behind r, with what is known of both
pub record IsStepTo (q : Quadrant) (first second : Chain) (r : Reached) (s : Solved) : Type 0 where
  pub here : IsReached q first second r
  pub here_list : IsListFor (quadrant_chain q first second) r.list
  pub left : TurnsLeft r.direction s.reached.direction
  pub closed : IsClosed q first second r (seen s)
  pub within : IsIn q s.reached.direction
  pub primitive : IsPrimitive s.reached.direction
  pub solved : IsSolvedIn q first second s

-- corners and edges such as a fan may have in a quadrant
pub record HaveRanges (q : Quadrant) (first second : Chain) (corners : List Corner) (edges : List Edge) : Type 0 where
  pub corners_in_range : All IsCornerInRange corners
  pub lists : All (λ (e : Edge). IsListFor (quadrant_chain q first second) e.list) edges

-- an arc to the last of n entries, in its ranges
pub record IsArcTo (q : Quadrant) (first second : Chain) (corners : List Corner) (last : Corner) (edges : List Edge) (edge : Option Edge) (spare : Option Prices) (n : ℕ) (r : Reached) : Type 0 where
  pub grown : AreArcTo q first second corners last edges edge spare n r
  pub ranges : HaveRanges q first second (corners ++ last ∷ []) (edges ++ option_to_list edge)

abbrev pub ArcIsTo : Quadrant → Chain → Chain → Arc → ℕ → Reached → Type 0
ArcIsTo q first second a n r = IsArcTo q first second (map corner_said a.corners.items) (corner_said a.last) (map edge_said a.edges.items) (option_map edge_said a.edge) a.spare n r

-- the arc to the last of the first n entries; there is none to no entry
abbrev pub IsArcAlong : Quadrant → Chain → Chain → List Reached → Option Arc → ℕ → Type 0
IsArcAlong q first second rs None n = n ≡ 0
IsArcAlong q first second rs (Some a) n = (k : ℕ) × (n ≡ suc k) × ArcIsTo q first second a n (reached rs k)

-- the half of a fan in a quadrant
pub record IsHalfFan (q : Quadrant) (first second : Chain) (h : Half) : Type 0 where
  pub half : IsHalf q first second (map corner_said h.corners.items) (map edge_said h.edges.items)
  pub ranges : HaveRanges q first second (map corner_said h.corners.items) (map edge_said h.edges.items)
  pub few : length h.corners.items ≤ most_entries
