-- Lists with an entry per side, out of which the components are made.
use Rattle.std.specs.Prelude.{◌≡◌, ℕ, ◌<◌, Bool, ◌==◌, List, length}
use Rattle.sc_shape.specs.Classes.{entry}

-- the list has the values of f at the first n numbers
pub record AreValues (f : ℕ → ℕ) (n : ℕ) (values : List ℕ) : Type 0 where
  pub as_many : length values ≡ n
  pub each : (s : ℕ) → s < n → entry values s ≡ f s

-- whether the list has r at r itself: r is the least of its class
abbrev pub is_own : List ℕ → ℕ → Bool
is_own least r = entry least r == r
