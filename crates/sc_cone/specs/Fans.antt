-- The fan of two chains: corners round the half plane, each with its value, and a price list from each to the next.
use Rattle.std.specs.Prelude.{◌≡◌, ℕ, suc, ◌<◌, List, [], length, get_or, ℤ, pos, negsuc, ◌≤ℤ◌}
use Rattle.sc_theory.specs.Chains.{Chain}
use Rattle.sc_theory.specs.Prices.{Prices, Covers}
use Rattle.sc_cone.specs.declared.Direction.{Direction}
use Rattle.sc_cone.specs.declared.Quadrant.{Quadrant}
use Rattle.sc_cone.specs.declared.Quadrant.TheVariants.{Lower, Upper}
use Rattle.sc_cone.specs.Directions.{down, right, up, first_end, last_end, IsIn, IsPrimitive, TurnsLeft}
use Rattle.sc_cone.specs.Cones.{chain_of, quadrant_chain}
use Rattle.sc_cone.specs.Values.{IsValueOf, IsTightAt}

-- a direction and its value, a numerator over a denominator
pub record Corner : Type 0 where
  pub direction : Direction
  pub value : ℤ × ℤ

pub record Edge : Type 0 where
  pub from : Corner
  pub to : Corner
  pub list : Prices

pub record Fan : Type 0 where
  pub first : Chain
  pub second : Chain
  pub corners : List Corner
  pub edges : List Edge

-- what stands past the end
abbrev pub no_corner : Corner
no_corner = record { direction = right; value = (pos 0, pos 1) }

abbrev pub no_edge : Edge
no_edge = record { from = no_corner; to = no_corner; list = record { scale = pos 1; base = []; pair = [] } }

-- the corner number i and its direction, and the edge number i
abbrev pub corner : Fan → ℕ → Corner
corner f i = get_or f.corners i no_corner

abbrev pub turn_to : Fan → ℕ → Direction
turn_to f i = (corner f i).direction

abbrev pub edge : Fan → ℕ → Edge
edge f i = get_or f.edges i no_edge

-- an edge lies in the lower quadrant where it begins below the first axis, else in the upper one
abbrev pub quadrant_from : ℤ → Quadrant
quadrant_from (pos t) = Upper
quadrant_from (negsuc t) = Lower

abbrev pub quadrant_of : Fan → ℕ → Quadrant
quadrant_of f i = quadrant_from (edge f i).from.direction.t

pub record IsFan (f : Fan) : Type 0 where
  -- the corners go from 0, -1 through 1, 0 to 0, 1
  pub begins : turn_to f 0 ≡ down
  pub passes : (m : ℕ) × (m < length f.corners) × (turn_to f m ≡ right)
  pub ends : (k : ℕ) → suc k ≡ length f.corners → turn_to f k ≡ up
  -- they are primitive, with s of at least 0, and each is to the left of the one before
  pub primitive : (i : ℕ) → i < length f.corners → IsPrimitive (turn_to f i)
  pub half : (i : ℕ) → i < length f.corners → pos 0 ≤ℤ (turn_to f i).s
  pub left : (i : ℕ) → suc i < length f.corners → TurnsLeft (turn_to f i) (turn_to f (suc i))
  -- each has its value, in each quadrant that it lies in
  pub values : (i : ℕ) (q : Quadrant) → i < length f.corners → IsIn q (turn_to f i) → IsValueOf (chain_of q f.first f.second (turn_to f i)) (corner f i).value.0 (corner f i).value.1
  -- from each corner to the next there is one edge, in the order of the corners
  pub count : suc (length f.edges) ≡ length f.corners
  pub joins : (i : ℕ) → i < length f.edges → ((edge f i).from ≡ corner f i) × ((edge f i).to ≡ corner f (suc i))
  -- its list covers its quadrant's chain and is tight at both ends
  pub covers : (i : ℕ) → i < length f.edges → Covers (quadrant_chain (quadrant_of f i) f.first f.second) (edge f i).list
  pub tight : (i : ℕ) → i < length f.edges → IsTightAt (quadrant_of f i) f.first f.second (edge f i).list (turn_to f i) × IsTightAt (quadrant_of f i) f.first f.second (edge f i).list (turn_to f (suc i))
  -- within a quadrant no list is tight at the far end of the next edge
  pub apart : (i : ℕ) → suc i < length f.edges → quadrant_of f i ≡ quadrant_of f (suc i) → IsTightAt (quadrant_of f i) f.first f.second (edge f i).list (turn_to f (suc (suc i))) → ⊥

-- a primitive direction of a quadrant with its value
pub record IsGoodCorner (q : Quadrant) (first second : Chain) (c : Corner) : Type 0 where
  pub within : IsIn q c.direction
  pub primitive : IsPrimitive c.direction
  pub value : IsValueOf (chain_of q first second c.direction) c.value.0 c.value.1

-- part of a fan within a quadrant: corners, each to the left of the one before, and an edge from each to the next
pub record IsArc (q : Quadrant) (first second : Chain) (corners : List Corner) (edges : List Edge) : Type 0 where
  pub count : suc (length edges) ≡ length corners
  pub within : (i : ℕ) → i < length corners → IsIn q (get_or corners i no_corner).direction
  pub primitive : (i : ℕ) → i < length corners → IsPrimitive (get_or corners i no_corner).direction
  pub left : (i : ℕ) → suc i < length corners → TurnsLeft (get_or corners i no_corner).direction (get_or corners (suc i) no_corner).direction
  pub values : (i : ℕ) → i < length corners → IsValueOf (chain_of q first second (get_or corners i no_corner).direction) (get_or corners i no_corner).value.0 (get_or corners i no_corner).value.1
  pub joins : (i : ℕ) → i < length edges → ((get_or edges i no_edge).from ≡ get_or corners i no_corner) × ((get_or edges i no_edge).to ≡ get_or corners (suc i) no_corner)
  pub covers : (i : ℕ) → i < length edges → Covers (quadrant_chain q first second) (get_or edges i no_edge).list
  pub tight : (i : ℕ) → i < length edges → IsTightAt q first second (get_or edges i no_edge).list (get_or corners i no_corner).direction × IsTightAt q first second (get_or edges i no_edge).list (get_or corners (suc i) no_corner).direction
  pub apart : (i : ℕ) → suc i < length edges → IsTightAt q first second (get_or edges i no_edge).list (get_or corners (suc (suc i)) no_corner).direction → ⊥

-- the part of a fan in a whole quadrant
pub record IsHalf (q : Quadrant) (first second : Chain) (corners : List Corner) (edges : List Edge) : Type 0 where
  pub begins : (get_or corners 0 no_corner).direction ≡ first_end q
  pub ends : (k : ℕ) → suc k ≡ length corners → (get_or corners k no_corner).direction ≡ last_end q
  pub arc : IsArc q first second corners edges
