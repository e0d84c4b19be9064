-- Walks from a position along others, and those that don't come back to their start.
use Rattle.std.specs.Prelude.{◌≡◌, ◌≢◌, ℕ, List, [], ◌∷◌}
use Rattle.std.specs.List.{AllByRecursion}
use Rattle.sc_theory.specs.Chains.{Chain}
use Rattle.sc_theory.specs.Walks.{IsStep}

-- a step from i to the first of js, and from each of js to the next
abbrev pub WalksAlong : Chain → ℕ → List ℕ → Type 0
WalksAlong c i [] = Unit {0}
WalksAlong c i (j ∷ js) = IsStep c i j × WalksAlong c j js

-- the last position of the walk from i along js
abbrev pub end_of : ℕ → List ℕ → ℕ
end_of i [] = i
end_of i (j ∷ js) = end_of j js

-- the walk from s along js comes to j, and doesn't come back to s
pub record LeadsTo (c : Chain) (s j : ℕ) (js : List ℕ) : Type 0 where
  pub walks : WalksAlong c s js
  pub away : AllByRecursion (λ i. s ≢ i) js
  pub ends : end_of s js ≡ j
