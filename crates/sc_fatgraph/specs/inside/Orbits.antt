-- Fatgraphs without their labels, and marks on the orbits of turn.
use Rattle.std.specs.Prelude.{◌≡◌, ℕ, ◌<◌, Bool, true, false, List, length, get_or}
use Rattle.std.specs.Fn.{iterate}
use Rattle.sc_theory.specs.Fatgraphs.{Sides, mate, next, turn}

-- a fatgraph without its labels: every mate and next is a side, the mate of the mate is the side, and no two sides
-- have the same next
pub record IsRibbon (g : Sides) : Type 0 where
  pub mates : (s : ℕ) → s < length g → mate g s < length g
  pub nexts : (s : ℕ) → s < length g → next g s < length g
  pub back : (s : ℕ) → s < length g → mate g (mate g s) ≡ s
  pub apart : (s t : ℕ) → s < length g → t < length g → next g s ≡ next g t → s ≡ t

-- some number of turns takes the side s to the side u
abbrev pub IsInOrbit : Sides → ℕ → ℕ → Type 0
IsInOrbit g s u = (k : ℕ) × (iterate (turn g) k s ≡ u)

-- the side s has its mark
abbrev pub IsMarked : List Bool → ℕ → Type 0
IsMarked marks s = get_or marks s false ≡ true

-- with a side, the next one round its vertex is marked
abbrev pub IsClosed : Sides → List Bool → Type 0
IsClosed g marks = (s : ℕ) → s < length g → IsMarked marks s → IsMarked marks (turn g s)
