-- The search for the corners of a quadrant.
use Rattle.std.specs.Prelude.{◌≡◌, ◌≢◌, ℕ, suc, ◌<◌, List, [], ◌∷◌, ◌++◌, length, get_or, pos}
use Rattle.sc_theory.specs.Chains.{Chain}
use Rattle.sc_theory.specs.Prices.{Prices, Covers}
use Rattle.sc_cone.specs.declared.Direction.{Direction}
use Rattle.sc_cone.specs.declared.Quadrant.{Quadrant}
use Rattle.sc_cone.specs.Directions.{right, first_end, last_end, IsIn, IsPrimitive, TurnsLeft, IsCombination}
use Rattle.sc_cone.specs.Cones.{quadrant_chain}
use Rattle.sc_cone.specs.Values.{IsTightAt, SameValueAt}

-- a direction with a list
pub record Reached : Type 0 where
  pub direction : Direction
  pub list : Prices

-- the list covers the quadrant's chain and is tight at the direction
pub record IsReached (q : Quadrant) (first second : Chain) (r : Reached) : Type 0 where
  pub covers : Covers (quadrant_chain q first second) r.list
  pub tight : IsTightAt q first second r.list r.direction

-- neither of two neighbours' lists is tight at the other's direction
pub record IsOpen (q : Quadrant) (first second : Chain) (r u : Reached) : Type 0 where
  pub beyond : IsTightAt q first second r.list u.direction → ⊥
  pub back : IsTightAt q first second u.list r.direction → ⊥

-- two such neighbours of a quadrant, the second to the left of the first
pub record IsGap (q : Quadrant) (first second : Chain) (r u : Reached) : Type 0 where
  pub here : IsReached q first second r
  pub there : IsReached q first second u
  pub here_within : IsIn q r.direction
  pub there_within : IsIn q u.direction
  pub left : TurnsLeft r.direction u.direction
  pub opened : IsOpen q first second r u

-- a direction that is no end of its quadrant
pub record IsInside (d : Direction) : Type 0 where
  pub first : d.s ≢ pos 0
  pub second : d.t ≢ pos 0

-- the next direction between two neighbours: where both lie inside the quadrant, the one at which their lists have one
-- value, and else the primitive direction of their sum
pub record IsNext (q : Quadrant) (first second : Chain) (r u : Reached) (x : Direction) : Type 0 where
  pub within : IsIn q x
  pub primitive : IsPrimitive x
  pub crossing : IsInside r.direction → IsInside u.direction → SameValueAt q first second r.list u.list x
  pub sum : (IsInside r.direction × IsInside u.direction → ⊥) → (k : ℕ) × IsCombination k 1 1 r.direction u.direction x

-- the directions in the order of turning left: first the two ends, and then each next direction between two neighbours
-- whose lists are each not tight at the other's direction
pub data IsSearch (q : Quadrant) (first second : Chain) : List Reached → Type 0 where
  begun : {r u : Reached} → r.direction ≡ first_end q → u.direction ≡ last_end q → IsReached q first second r → IsReached q first second u → IsSearch q first second (r ∷ u ∷ [])
  grown : (before : List Reached) (r x u : Reached) (after : List Reached) → IsSearch q first second (before ++ r ∷ u ∷ after) → IsOpen q first second r u → IsNext q first second r u x.direction → IsReached q first second x → IsSearch q first second (before ++ r ∷ x ∷ u ∷ after)

-- the entry number i of a list of directions with lists, and what stands past the end
abbrev pub nothing_reached : Reached
nothing_reached = record { direction = right; list = record { scale = pos 1; base = []; pair = [] } }

abbrev pub reached : List Reached → ℕ → Reached
reached rs i = get_or rs i nothing_reached

-- primitive directions of a quadrant from its one end to the other, each to the left of the one before, with lists that
-- cover and are tight there
pub record IsSweep (q : Quadrant) (first second : Chain) (rs : List Reached) : Type 0 where
  pub begins : (reached rs 0).direction ≡ first_end q
  pub ends : (k : ℕ) → suc k ≡ length rs → (reached rs k).direction ≡ last_end q
  pub within : (i : ℕ) → i < length rs → IsIn q (reached rs i).direction
  pub primitive : (i : ℕ) → i < length rs → IsPrimitive (reached rs i).direction
  pub tight : (i : ℕ) → i < length rs → IsReached q first second (reached rs i)
  pub left : (i : ℕ) → suc i < length rs → TurnsLeft (reached rs i).direction (reached rs (suc i)).direction
