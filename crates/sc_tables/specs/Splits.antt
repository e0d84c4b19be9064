-- Closed walks that are split into polygons.
use Rattle.std.specs.Prelude.{◌≡◌, ◌≢◌, ℕ, List, [], ◌∷◌, ◌++◌, ℤ}
use Rattle.std.specs.List.{AllByRecursion}
use Rattle.sc_theory.specs.Walks.{walk_total, walks_total}

-- the steps of the closed walks, counted with repeats, are those of the closed walk: at every price they have its total
abbrev pub HaveStepsOf : List (List ℕ) → List ℕ → Type 0
HaveStepsOf walks walk = (price : ℕ → ℕ → ℤ) → walks_total price walks ≡ walk_total price walk

-- ---- what is known on the way

-- a place that the path hasn't passed comes behind it
pub record GoesOn (place : ℕ) (path new : List ℕ) (polygons made : List (List ℕ)) : Type 0 where
  pub away : AllByRecursion (λ j. place ≢ j) path
  pub path_is : new ≡ path ++ place ∷ []
  pub polygons_are : made ≡ polygons
