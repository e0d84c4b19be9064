-- Said by private functions alone: the search of a quadrant as it is made.
use Rattle.std.specs.Prelude.{ℕ, suc, ◌+◌, ◌<◌, ◌≤◌, List, length, All, Option, Some, None}
use Rattle.sc_theory.specs.Chains.{Chain, positions, IsBalanced}
use Rattle.sc_chain.specs.declared.limits.TheConstants.{MAX_WORDS, MAX_POSITIONS}
use Rattle.sc_cone.specs.declared.Quadrant.{Quadrant}
use Rattle.sc_cone.specs.Cones.{chain_of}
use Rattle.sc_cone.specs.Searches.{Reached, reached, IsOpen, IsNext, IsSearch}
use Rattle.sc_crossing.specs.Lengths.{IsLight}
use Rattle.sc_crossing.specs.Forms.{IsNextFault}
use Rattle.sc_solve.specs.Solutions.{IsStopped}
use Rattle.sc_ball.specs.declared.solved.Solved.{Solved}
use Rattle.sc_ball.specs.declared.searching.Stop.{Stop}
use Rattle.sc_ball.specs.declared.searching.Stop.TheVariants as stops
use Rattle.sc_ball.specs.inside.Neighbours.{IsClosed}
use Rattle.sc_ball.specs.inside.Solved.{IsSolvedIn}
use Rattle.sc_ball.specs.Searched.{entries_of}

-- two balanced chains that together are no larger than one may be
pub record SpanPlane (first second : Chain) : Type 0 where
  pub first_balanced : IsBalanced first
  pub second_balanced : IsBalanced second
  pub few_words : length first + length second ≤ MAX_WORDS
  pub few_positions : positions first + positions second ≤ MAX_POSITIONS

-- a search of solved directions, of which no two neighbours among the first n are open
pub record IsSearchedTo (q : Quadrant) (first second : Chain) (entries : List Solved) (n : ℕ) : Type 0 where
  pub search : IsSearch q first second (entries_of entries)
  pub solved : All (IsSolvedIn q first second) entries
  pub closed : (i : ℕ) → suc i < n → IsClosed q first second (reached (entries_of entries) i) (reached (entries_of entries) (suc i))

-- the entry between two neighbours, and none where they are closed
abbrev pub IsEntryBetween : Quadrant → Chain → Chain → Reached → Reached → Option Solved → Type 0
IsEntryBetween q first second r u None = IsClosed q first second r u
IsEntryBetween q first second r u (Some s) = IsOpen q first second r u × IsNext q first second r u s.reached.direction × IsSolvedIn q first second s

-- why there is no entry between two open neighbours
abbrev pub IsStopBetween : Quadrant → Chain → Chain → ℕ → Reached → Reached → Stop → Type 0
IsStopBetween q first second budget r u (stops.Solve direction fault) =
    IsNext q first second r u direction × IsLight first second direction × IsStopped (chain_of q first second direction) budget fault
IsStopBetween q first second budget r u (stops.Next fault) = IsNextFault q first second r u fault
