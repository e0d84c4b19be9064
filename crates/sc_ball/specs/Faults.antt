-- What stops the search for the corners of a quadrant.
use Rattle.std.specs.Prelude.{◌≡◌, ◌⊎◌, ℕ, suc, ◌<◌, Bool, true, false, List, [], ◌∷◌, map, length, All}
use Rattle.sc_theory.specs.Chains.{Chain}
use Rattle.sc_cone.specs.declared.Direction.{Direction}
use Rattle.sc_cone.specs.declared.Quadrant.{Quadrant}
use Rattle.sc_cone.specs.declared.Quadrant.TheVariants.{Lower, Upper}
use Rattle.sc_cone.specs.Directions.{first_end, last_end}
use Rattle.sc_cone.specs.Cones.{chain_of, quadrant_chain}
use Rattle.sc_cone.specs.Searches.{Reached, reached, IsOpen, IsNext, IsSearch}
use Rattle.sc_crossing.specs.declared.fault.NextFault.{NextFault}
use Rattle.sc_crossing.specs.declared.fault.NextFault.TheVariants as next_faults
use Rattle.sc_crossing.specs.Lengths.{IsLight}
use Rattle.sc_crossing.specs.Neighbours.{reached_of}
use Rattle.sc_crossing.specs.Forms.{IsNextFault}
use Rattle.sc_fan.specs.Fans.{IsListFor}
use Rattle.sc_solve.specs.declared.solution.SolveFault.{SolveFault}
use Rattle.sc_solve.specs.declared.solution.SolveFault.TheVariants as solve_faults
use Rattle.sc_solve.specs.Solutions.{IsStopped}
use Rattle.sc_ball.specs.declared.fault.BallFault.{BallFault}
use Rattle.sc_ball.specs.declared.fault.BallFault.TheVariants.{Solve, Cross, Length, Memory}

-- each entry's list is one for the quadrant's chain: a price for each word and each pair, in range
abbrev pub HaveListsFor : Quadrant → Chain → Chain → List Reached → Type 0
HaveListsFor q first second rs = All (λ (r : Reached). IsListFor (quadrant_chain q first second) r.list) rs

-- two neighbours of a search, its entries number i and i + 1, whose lists are each not tight at the other's direction
pub record AreOpenIn (q : Quadrant) (first second : Chain) (rs : List Reached) (i : ℕ) : Type 0 where
  pub search : IsSearch q first second rs
  pub lists : HaveListsFor q first second rs
  pub inside : suc i < length rs
  pub opened : IsOpen q first second (reached rs i) (reached rs (suc i))

-- the next direction between two such neighbours
abbrev pub IsNextIn : Quadrant → Chain → Chain → List Reached → Direction → Type 0
IsNextIn q first second rs d = (i : ℕ) × AreOpenIn q first second rs i × IsNext q first second (reached rs i) (reached rs (suc i)) d

-- the directions that are solved: the two ends of the quadrant, while there is no search, and then each next direction
abbrev pub IsDue : Quadrant → Chain → Chain → List Reached → Direction → Type 0
IsDue q first second [] d = (d ≡ first_end q) ⊎ (d ≡ last_end q)
IsDue q first second (r ∷ rs) d = IsNextIn q first second (r ∷ rs) d

abbrev pub is_memory : SolveFault → Bool
is_memory (solve_faults.Budget journal improving) = false
is_memory (solve_faults.Wide journal at) = false
is_memory (solve_faults.Sides journal part so_far next) = false
is_memory solve_faults.Memory = true

-- the chain of a direction that is due, which isn't too long, is answered with this fault
pub record IsUnsolved (q : Quadrant) (first second : Chain) (budget : ℕ) (rs : List Reached) (d : Direction) (fault : SolveFault) : Type 0 where
  pub due : IsDue q first second rs d
  pub light : IsLight first second d
  pub told : is_memory fault ≡ false
  pub stopped : IsStopped (chain_of q first second d) budget fault

-- between two open neighbours of a search there is no next direction, or its chain is too long
pub record IsUncrossed (q : Quadrant) (first second : Chain) (rs : List Reached) (from to : Direction) (fault : NextFault) : Type 0 where
  pub place : ℕ
  pub opened : AreOpenIn q first second rs place
  pub from_is : (reached rs place).direction ≡ from
  pub to_is : (reached rs (suc place)).direction ≡ to
  pub stopped : IsNextFault q first second (reached rs place) (reached rs (suc place)) fault

abbrev pub quadrant_of : Bool → Quadrant
quadrant_of true = Lower
quadrant_of false = Upper

-- want of memory says nothing
abbrev pub IsBallFault : Chain → Chain → ℕ → BallFault → Type 0
IsBallFault first second budget (Solve search lower direction fault) = IsUnsolved (quadrant_of lower) first second budget (map reached_of search.items) direction fault
IsBallFault first second budget (Cross search from to place x y) = (q : Quadrant) × IsUncrossed q first second (map reached_of search.items) from to (next_faults.Cross place x y)
IsBallFault first second budget (Length search from to s t) = (q : Quadrant) × IsUncrossed q first second (map reached_of search.items) from to (next_faults.Length s t)
IsBallFault first second budget Memory = Unit {0}
