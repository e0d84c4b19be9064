-- The least totals of walks, and the tables that vouch for a threshold.
use Rattle.std.specs.Prelude.{◌≡◌, ℕ, ◌<◌, List, Option, Some, None}
use Rattle.sc_theory.specs.Chains.{Chain, positions}
use Rattle.sc_theory.specs.Walks.{IsClosedWalk, IsPolygon}
use Rattle.sc_theory.specs.Prices.{VouchBy}
use Rattle.sc_weight.specs.Levels.{Levels, zero_levels, levels_sum}
use Rattle.sc_tables.specs.Walks.{LeadsTo}
use Rattle.sc_tables.specs.Totals.{open_total, closed_total, IsBelow, IsAtMost}

-- every closed walk has a total of at least the threshold
abbrev pub AllAtLeast : Chain → (ℕ → ℕ → Levels) → Levels → Type 0
AllAtLeast c price threshold = (walk : List ℕ) → IsClosedWalk c walk → IsAtMost threshold (closed_total price walk)

-- the walk is a polygon whose total is below the threshold
pub record IsPolygonBelow (c : Chain) (price : ℕ → ℕ → Levels) (threshold : Levels) (walk : List ℕ) : Type 0 where
  pub polygon : IsPolygon c walk
  pub below : IsBelow (closed_total price walk) threshold

-- a is the total of a walk from s to j that doesn't come back to s, and none has less
pub record IsLeastOpenTotal (c : Chain) (price : ℕ → ℕ → Levels) (s j : ℕ) (a : Levels) : Type 0 where
  pub reached : (js : List ℕ) × LeadsTo c s j js × (open_total price s js ≡ a)
  pub least : (js : List ℕ) → LeadsTo c s j js → IsAtMost a (open_total price s js)

-- the entry is the least total of a walk from s to j that doesn't come back to s, and none where there is no such walk
abbrev pub IsLeastTotal : Chain → (ℕ → ℕ → Levels) → ℕ → ℕ → Option Levels → Type 0
IsLeastTotal c price s j (Some a) = IsLeastOpenTotal c price s j a
IsLeastTotal c price s j None = (js : List ℕ) → ¬ LeadsTo c s j js

-- the tables hold the least totals
abbrev pub AreLeastTotals : Chain → (ℕ → ℕ → Levels) → (ℕ → ℕ → Option Levels) → Type 0
AreLeastTotals c price entry = (s j : ℕ) → s < positions c → j < positions c → IsLeastTotal c price s j (entry s j)

-- the tables vouch for the threshold, over amounts of two levels
abbrev pub VouchFor : Chain → (ℕ → ℕ → Levels) → Levels → (ℕ → ℕ → Option Levels) → Type 0
VouchFor c price threshold entry = VouchBy zero_levels levels_sum IsAtMost c price threshold entry
