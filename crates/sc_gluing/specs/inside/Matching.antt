-- Said by private functions alone: numbers below a bound whose kinds are matched in their order.
use Rattle.std.specs.Prelude.{◌≡◌, ℕ, suc, ◌<◌, ◌≤◌, List, length, get_or}
use Rattle.sc_gluing.specs.Matching.{IsNext}

-- the places from s on are linked: each kind's first one, and from each the next of its kind
pub record AreLinked (kinds : List ℕ) (s : ℕ) (firsts following : List ℕ) : Type 0 where
  pub as_many : length following ≡ length kinds
  pub first : (k : ℕ) → k < length firsts → IsNext kinds k s (get_or firsts k 0)
  pub next : (t : ℕ) → s ≤ t → t < length kinds → IsNext kinds (get_or kinds t 0) (suc t) (get_or following t 0)
