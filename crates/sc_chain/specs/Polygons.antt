-- Tests of steps, closed walks and polygons that compute, and what every polygon keeps.
use Rattle.std.specs.Prelude.{ℕ, ◌<◌, ◌≤◌, Bool, true, false, not, ◌&&◌, ◌==◌, nat_lt, List, [], ◌∷◌, length, get_or}
use Rattle.std.specs.List.{list_all}
use Rattle.sc_theory.specs.Words.{is_inverse}
use Rattle.sc_theory.specs.Chains.{Chain, positions, letter, succ}
use Rattle.sc_theory.specs.Walks.{IsFromLeast, HasNoRepeat}
use Rattle.sc_chain.specs.declared.limits.TheConstants.{MAX_POSITIONS}

abbrev pub is_step : Chain → ℕ → ℕ → Bool
is_step c i j = nat_lt i (positions c) && nat_lt j (positions c) && is_inverse (letter c (succ c i)) (letter c j)

-- from i along js, with a step to each and from the last back to the start
abbrev pub walks_back : Chain → ℕ → ℕ → List ℕ → Bool
walks_back c start i [] = is_step c i start
walks_back c start i (j ∷ js) = is_step c i j && walks_back c start j js

abbrev pub is_closed_walk : Chain → List ℕ → Bool
is_closed_walk c [] = false
is_closed_walk c (i ∷ js) = walks_back c i i js

abbrev pub is_from_least : List ℕ → Bool
is_from_least [] = false
is_from_least (i ∷ js) = list_all (λ j. nat_lt i j) js

abbrev pub has_no_repeat : List ℕ → Bool
has_no_repeat [] = true
has_no_repeat (i ∷ js) = list_all (λ j. not (i == j)) js && has_no_repeat js

abbrev pub is_polygon : Chain → List ℕ → Bool
is_polygon c walk = is_closed_walk c walk && is_from_least walk && has_no_repeat walk

-- what the walk of every polygon keeps
pub record IsSmallWalk (walk : List ℕ) : Type 0 where
  pub least : IsFromLeast walk
  pub simple : HasNoRepeat walk
  pub few : length walk ≤ MAX_POSITIONS
  pub in_range : (k : ℕ) → k < length walk → get_or walk k 0 < MAX_POSITIONS
