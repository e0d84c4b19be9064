-- Said by private functions alone: closed walks that are split into polygons.
use Rattle.std.specs.Prelude.{◌≡◌, ℕ, ◌<◌, ◌≤◌, List, [], ◌∷◌, ◌++◌, length, get_or, ℤ}
use Rattle.sc_theory.specs.Chains.{Chain}
use Rattle.sc_theory.specs.Walks.{IsPolygon, walk_total}

-- none of the first n numbers of the list is below the one at the place k
pub record IsLeastPlace (xs : List ℕ) (n k : ℕ) : Type 0 where
  pub inside : k < length xs
  pub least : (i : ℕ) → i < n → get_or xs k 0 ≤ get_or xs i 0

-- the polygon has the steps of the closed walk
pub record IsPolygonOf (c : Chain) (cycle polygon : List ℕ) : Type 0 where
  pub valid : IsPolygon c polygon
  pub steps : (price : ℕ → ℕ → ℤ) → walk_total price polygon ≡ walk_total price cycle

-- one that it has passed closes a polygon, which is cut off
pub record CutsOff (c : Chain) (place : ℕ) (path new : List ℕ) (polygons made : List (List ℕ)) : Type 0 where
  pub before : List ℕ
  pub between : List ℕ
  pub path_was : path ≡ before ++ place ∷ between
  pub path_is : new ≡ before ++ place ∷ []
  pub polygon : List ℕ
  pub polygon_is : IsPolygonOf c (place ∷ between) polygon
  pub polygons_are : made ≡ polygons ++ polygon ∷ []
