-- The greatest common divisor of a list and its scale, entry by entry.
use Rattle.std.specs.Prelude.{ℕ, ◌<◌, ℤ, unsigned_abs}
use Rattle.std.specs.Int.{◌∣◌}

-- g is the greatest common divisor of d and of the first n entries of v
pub record IsCommonDivisor (n : ℕ) (v : ℕ → ℤ) (d : ℤ) (g : ℕ) : Type 0 where
  pub of_scale : g ∣ unsigned_abs d
  pub of_entries : (k : ℕ) → k < n → g ∣ unsigned_abs (v k)
  pub greatest : (e : ℕ) → e ∣ unsigned_abs d → ((k : ℕ) → k < n → e ∣ unsigned_abs (v k)) → e ∣ g
