-- The order of numbers and of lists, as what `Ordering` says.
use Rattle.std.specs.Prelude.{ℕ, zero, suc, ℤ}

-- v followed by f
abbrev pub headed : ℤ → (ℕ → ℤ) → ℕ → ℤ
headed v f zero = v
headed v f (suc k) = f k
