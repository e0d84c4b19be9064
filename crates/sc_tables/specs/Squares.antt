-- Squares with an entry or none in each place: tables of all starts, or the prices of steps.
use Rattle.std.specs.Prelude.{ℕ, ◌+◌, ◌*◌, List, get_or, Option, Some, None, refl}
use Rattle.std.specs.Coded.{Coded, code_by, coded×, coded_ℕ, coded_list, coded_option}
use Rattle.sc_weight.specs.Levels.{Levels, zero_levels}

-- a list for each position, one behind another: the table of a start, or the prices of the steps into a position
pub record Square (A : Type 0) : Type 0 where
  pub side : ℕ
  pub cells : List (Option A)

abbrev pub square_code : {A : Type 0} → Coded A → Coded (Square A)
square_code code =
    code_by (ℕ × List (Option _)) (coded× coded_ℕ (coded_list (coded_option code))) (λ t. (t.side, t.cells)) (λ p. record { side = p.0; cells = p.1 }) (λ _. refl)

-- what the list of the position i has at the place j
abbrev pub cell : {A : Type 0} → Square A → ℕ → ℕ → Option A
cell t i j = get_or t.cells (i * t.side + j) None

-- the numbers of an entry, and 0 where there is none
abbrev pub level_of : {A : Type 0} → (A → Levels) → Option A → Levels
level_of levels None = zero_levels
level_of levels (Some a) = levels a
