-- Exact totals of walks at prices of two levels, and their order.
use Rattle.std.specs.Prelude.{◌≡◌, ℕ, true, false, List, [], ◌∷◌, ℤ, pos, ◌+ℤ◌}
use Rattle.std.specs.Ordering.{is_lt}
use Rattle.sc_weight.specs.Levels.{Levels, levels_cmp}
use Rattle.sc_theory.specs.Walks.{walk_total}

-- the total of a price over the steps from i along js
abbrev pub total_along : (ℕ → ℕ → ℤ) → ℕ → List ℕ → ℤ
total_along price i [] = pos 0
total_along price i (j ∷ js) = price i j +ℤ total_along price j js

-- the numbers of a price at the two levels
abbrev pub bulk_of : (ℕ → ℕ → Levels) → ℕ → ℕ → ℤ
bulk_of price i j = (price i j).bulk

abbrev pub fine_of : (ℕ → ℕ → Levels) → ℕ → ℕ → ℤ
fine_of price i j = (price i j).fine

-- the exact total of the steps from i along js
abbrev pub open_total : (ℕ → ℕ → Levels) → ℕ → List ℕ → Levels
open_total price i js = record { bulk = total_along (bulk_of price) i js; fine = total_along (fine_of price) i js }

-- the exact total of the steps of a closed walk
abbrev pub closed_total : (ℕ → ℕ → Levels) → List ℕ → Levels
closed_total price walk = record { bulk = walk_total (bulk_of price) walk; fine = walk_total (fine_of price) walk }

-- x is below y in the order by bulk, and then by fine
abbrev pub IsBelow : Levels → Levels → Type 0
IsBelow x y = is_lt (levels_cmp x y) ≡ true

-- y is not below x
abbrev pub IsAtMost : Levels → Levels → Type 0
IsAtMost x y = is_lt (levels_cmp y x) ≡ false
