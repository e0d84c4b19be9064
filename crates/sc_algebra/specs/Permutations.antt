-- Permutations of the numbers below a bound, and their orbits.
use Rattle.std.specs.Prelude.{◌≡◌, ℕ, zero, suc, ◌<◌, Bool, true, ◌&&◌, nat_le, ℤ, pos, ◌+ℤ◌}
use Rattle.std.specs.Fn.{iterate}

-- t moves the numbers below n among themselves, no two to the same one
pub record IsPermutation (t : ℕ → ℕ) (n : ℕ) : Type 0 where
  pub into : (s : ℕ) → s < n → t s < n
  pub apart : (s u : ℕ) → s < n → u < n → t s ≡ t u → s ≡ u

-- whether none of the first k iterates of t at s is below s: s, t s, t (t s), ..
abbrev pub is_least_for : (ℕ → ℕ) → ℕ → ℕ → Bool
is_least_for t zero s = true
is_least_for t (suc k) s = is_least_for t k s && nat_le s (iterate t k s)

-- f s + f (t s) + .., k of them, along the iterates of t from s
abbrev pub sum_along : (ℕ → ℤ) → (ℕ → ℕ) → ℕ → ℕ → ℤ
sum_along f t zero s = pos 0
sum_along f t (suc k) s = f s +ℤ sum_along f t k (t s)
