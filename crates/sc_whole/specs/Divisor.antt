-- Common multiples of whole numbers.
use Rattle.std.specs.Prelude.{ℕ}
use Rattle.std.specs.Int.{◌∣◌}

-- m is the least common multiple of x and y: a multiple of both that divides each other one
pub record IsLcm (x y m : ℕ) : Type 0 where
  pub of_first : x ∣ m
  pub of_second : y ∣ m
  pub least : (k : ℕ) → x ∣ k → y ∣ k → m ∣ k
