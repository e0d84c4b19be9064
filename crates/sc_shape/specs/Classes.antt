-- Classes of the numbers below a bound under two maps, and the least number of each.
use Rattle.std.specs.Prelude.{◌≡◌, ℕ, ◌<◌, ◌≤◌, Bool, if◌then◌else◌, List, [], ◌∷◌, get_or}

-- where the steps of a path lead from s: `true` is a step of f, `false` one of g
abbrev pub along : (ℕ → ℕ) → (ℕ → ℕ) → List Bool → ℕ → ℕ
along f g [] s = s
along f g (b ∷ path) s = along f g path (if b then f s else g s)

-- some steps of f and g lead from s to t
abbrev pub LeadsTo : (ℕ → ℕ) → (ℕ → ℕ) → ℕ → ℕ → Type 0
LeadsTo f g s t = (path : List Bool) × (along f g path s ≡ t)

-- r leads to s, and of the numbers below n that do so it is the least
pub record IsLeastLeading (f g : ℕ → ℕ) (n s r : ℕ) : Type 0 where
  pub leads : LeadsTo f g r s
  pub least : (t : ℕ) → t < n → LeadsTo f g t s → r ≤ t

-- the map that a list of numbers stands for
abbrev pub entry : List ℕ → ℕ → ℕ
entry xs s = get_or xs s 0
