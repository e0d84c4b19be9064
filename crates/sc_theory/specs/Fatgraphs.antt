-- Labelled fatgraphs over a chain, their vertices and cost, and 'least'.
use Rattle.std.specs.Prelude.{◌≡◌, ◌≢◌, ℕ, ◌*◌, ◌/◌, ◌<◌, ◌==◌, List, length, get_or, ℤ, pos, ◌-ℤ◌, ◌*ℤ◌, ◌≤ℤ◌}
use Rattle.sc_algebra.specs.Sums.{count_below}
use Rattle.sc_algebra.specs.Permutations.{is_least_for}
use Rattle.sc_theory.specs.declared.Side.{Side}
use Rattle.sc_theory.specs.Words.{inverse_letter}
use Rattle.sc_theory.specs.Chains.{Chain, positions, weight, first, letter, succ}

-- the sides of a fatgraph, in order
abbrev pub Sides : Type 0
Sides = List Side

-- what stands past the end
abbrev pub no_side : Side
no_side = record { label = 0; mate = 0; next = 0 }

-- the label, the mate and the next of the side number s
abbrev pub label : Sides → ℕ → ℕ
label g s = (get_or g s no_side).label

abbrev pub mate : Sides → ℕ → ℕ
mate g s = (get_or g s no_side).mate

abbrev pub next : Sides → ℕ → ℕ
next g s = (get_or g s no_side).next

-- how often n copies of a chain run along the word number w
abbrev pub quota : Chain → ℕ → ℕ → ℕ
quota c n w = n * weight c w

-- how many sides have the position i as their label
abbrev pub sides_at : Sides → ℕ → ℕ
sides_at g i = count_below (λ s. label g s == i) (length g)

-- a labelled fatgraph over a chain with n copies
pub record IsFatgraph (c : Chain) (n : ℕ) (g : Sides) : Type 0 where
  -- there is a copy
  pub copies : 0 < n
  -- every label is a position, and every mate and next is a side
  pub labels : (s : ℕ) → s < length g → label g s < positions c
  pub mates : (s : ℕ) → s < length g → mate g s < length g
  pub nexts : (s : ℕ) → s < length g → next g s < length g
  -- the mate of the mate is the side, and no side is its own mate
  pub back : (s : ℕ) → s < length g → mate g (mate g s) ≡ s
  pub moves : (s : ℕ) → s < length g → mate g s ≢ s
  -- the letters of a side and of its mate are inverse
  pub inverse : (s : ℕ) → s < length g → letter c (label g (mate g s)) ≡ inverse_letter (letter c (label g s))
  -- no two sides have the same next
  pub apart : (s t : ℕ) → s < length g → t < length g → next g s ≡ next g t → s ≡ t
  -- the label of the next side is the next position
  pub follows : (s : ℕ) → s < length g → label g (next g s) ≡ succ c (label g s)
  -- the first position of each word is the label of as many sides as the copies run along it
  pub counts : (w : ℕ) → w < length c → sides_at g (first c w) ≡ quota c n w

-- the next side round the vertex
abbrev pub turn : Sides → ℕ → ℕ
turn g s = mate g (next g s)

-- the number of vertices: of the sides that no iterate of turn takes to a smaller number
abbrev pub vertices : Sides → ℕ
vertices g = count_below (is_least_for (turn g) (length g)) (length g)

-- the number of edges: two sides each
abbrev pub edges : Sides → ℕ
edges g = length g / 2

-- minus the Euler number: edges minus vertices
abbrev pub cost : Sides → ℤ
cost g = pos (edges g) -ℤ pos (vertices g)

-- no labelled fatgraph over the chain, with any number of copies and of sides, costs less for each copy
abbrev pub IsLeast : Chain → ℕ → Sides → Type 0
IsLeast c n g = (n' : ℕ) (g' : Sides) → IsFatgraph c n' g' → (cost g *ℤ pos n') ≤ℤ (cost g' *ℤ pos n)
