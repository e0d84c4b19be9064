-- Said by private functions alone: classes of the numbers below a bound under two maps, and the least number of each.
use Rattle.std.specs.Prelude.{◌≡◌, ℕ, ◌<◌, Bool, true, false, List, length, get_or}
use Rattle.sc_shape.specs.Classes.{IsLeastLeading, entry}

-- the map takes the numbers below n to numbers below n
abbrev pub StaysBelow : ℕ → (ℕ → ℕ) → Type 0
StaysBelow n f = (s : ℕ) → s < n → f s < n

-- a list of the least numbers that lead to each number below n
pub record AreLeast (f g : ℕ → ℕ) (n : ℕ) (least : List ℕ) : Type 0 where
  pub as_many : length least ≡ n
  pub right : (s : ℕ) → s < n → IsLeastLeading f g n s (entry least s)

-- the number s has its mark
abbrev pub IsMarked : List Bool → ℕ → Type 0
IsMarked marks s = get_or marks s false ≡ true

-- the numbers below `start` are marked, what is marked leads to nothing that isn't, and has its least number
pub record AreClassesBelow (f g : ℕ → ℕ) (n : ℕ) (marks : List Bool) (least : List ℕ) (start : ℕ) : Type 0 where
  pub as_many_marks : length marks ≡ n
  pub as_many : length least ≡ n
  pub closed : (s : ℕ) → s < n → IsMarked marks s → IsMarked marks (f s) × IsMarked marks (g s)
  pub below : (s : ℕ) → s < start → IsMarked marks s
  pub right : (s : ℕ) → s < n → IsMarked marks s → IsLeastLeading f g n s (entry least s)
