-- Steps between positions, closed walks, and polygons.
use Rattle.std.specs.Prelude.{◌≡◌, ◌≢◌, ℕ, ◌<◌, List, [], ◌∷◌, ℤ, pos, ◌+ℤ◌}
use Rattle.std.specs.List.{AllByRecursion}
use Rattle.sc_theory.specs.Words.{inverse_letter}
use Rattle.sc_theory.specs.Chains.{Chain, positions, letter, succ}

-- a step from i to j: the letter of j is the inverse of the letter after i
pub record IsStep (c : Chain) (i j : ℕ) : Type 0 where
  pub from : i < positions c
  pub to : j < positions c
  pub inverse : letter c j ≡ inverse_letter (letter c (succ c i))

-- from i along js, with a step to each and from the last back to the start
abbrev pub WalksBack : Chain → ℕ → ℕ → List ℕ → Type 0
WalksBack c start i [] = IsStep c i start
WalksBack c start i (j ∷ js) = IsStep c i j × WalksBack c start j js

-- a nonempty list of positions with a step from each to the next and from the last to the first
abbrev pub IsClosedWalk : Chain → List ℕ → Type 0
IsClosedWalk c [] = ⊥
IsClosedWalk c (i ∷ js) = WalksBack c i i js

-- the total of a price over the steps from i along js and back to the start
abbrev pub total_back : (ℕ → ℕ → ℤ) → ℕ → ℕ → List ℕ → ℤ
total_back price start i [] = price i start
total_back price start i (j ∷ js) = price i j +ℤ total_back price start j js

-- the total of a price over the steps of a closed walk
abbrev pub walk_total : (ℕ → ℕ → ℤ) → List ℕ → ℤ
walk_total price [] = pos 0
walk_total price (i ∷ js) = total_back price i i js

-- the total of a price over the steps of several closed walks
abbrev pub walks_total : (ℕ → ℕ → ℤ) → List (List ℕ) → ℤ
walks_total price [] = pos 0
walks_total price (w ∷ ws) = walk_total price w +ℤ walks_total price ws

-- the positions after the first are greater than it, and no two are the same
abbrev pub IsFromLeast : List ℕ → Type 0
IsFromLeast [] = ⊥
IsFromLeast (i ∷ js) = AllByRecursion (λ j. i < j) js

abbrev pub HasNoRepeat : List ℕ → Type 0
HasNoRepeat [] = Unit {0}
HasNoRepeat (i ∷ js) = AllByRecursion (λ j. i ≢ j) js × HasNoRepeat js

-- a closed walk without repeats, written from its least position
pub record IsPolygon (c : Chain) (walk : List ℕ) : Type 0 where
  pub closed : IsClosedWalk c walk
  pub least : IsFromLeast walk
  pub simple : HasNoRepeat walk
