-- Cycles of positions laid one behind another, and the sides that run along them.
use Rattle.std.specs.Prelude.{◌≡◌, ℕ, suc, ◌+◌, ◌-◌, ◌<◌, ◌==◌, ◌&&◌, Bool, nat_lt, if◌then◌else◌, List, [], ◌∷◌, length, get_or, replicate, ℤ, pos, ◌+ℤ◌, ◌*ℤ◌}
use Rattle.std.specs.List.{AllByRecursion, flat_map}
use Rattle.sc_algebra.specs.Sums.{count_below}
use Rattle.sc_theory.specs.Chains.{Chain}
use Rattle.sc_theory.specs.Walks.{IsClosedWalk}
use Rattle.sc_theory.specs.Columns.{rows, column, right_side}

-- lists of positions, each with a number of copies
abbrev pub Parts : Type 0
Parts = List (List ℕ × ℕ)

-- the copies one behind another, part by part
abbrev pub copies_of : Parts → List (List ℕ)
copies_of parts = flat_map (λ p. replicate p.1 p.0) parts

-- the positions along all cycles: each place is a side, and the position there is its label
abbrev pub labels_of : List (List ℕ) → List ℕ
labels_of cycles = flat_map (λ w. w) cycles

abbrev pub at : List (List ℕ) → ℕ → ℕ
at cycles s = get_or (labels_of cycles) s 0

-- the place after the place k round a list of n
abbrev pub round : ℕ → ℕ → ℕ
round n k = if suc k == n then 0 else suc k

-- the side that follows s round its cycle
abbrev pub after : List (List ℕ) → ℕ → ℕ
after [] s = s
after (w ∷ ws) s = if nat_lt s (length w) then round (length w) s else length w + after ws (s - length w)

-- whether the step that begins at the side s goes from the position i to the position j
abbrev pub goes : List (List ℕ) → ℕ → ℕ → ℕ → Bool
goes cycles i j s = (at cycles s == i) && (at cycles (after cycles s) == j)

-- how many of the sides before s begin a step between the same positions
abbrev pub rank : List (List ℕ) → ℕ → ℕ
rank cycles s = count_below (goes cycles (at cycles s) (at cycles (after cycles s))) s

-- the sum of the columns of the cycles
abbrev pub cycles_column : Chain → List (List ℕ) → ℕ → ℤ
cycles_column c [] k = pos 0
cycles_column c (w ∷ ws) k = column c w k +ℤ cycles_column c ws k

-- closed walks whose columns come to n times the right side
pub record AreCycles (c : Chain) (n : ℕ) (cycles : List (List ℕ)) : Type 0 where
  pub closed : AllByRecursion (IsClosedWalk c) cycles
  pub sums : (k : ℕ) → k < rows c → cycles_column c cycles k ≡ pos n *ℤ right_side c k
