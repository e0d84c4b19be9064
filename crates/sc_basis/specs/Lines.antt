-- The lexicographic order of lists.
use Rattle.std.specs.Prelude.{◌≡◌, ℕ, zero, suc, ◌<◌, ℤ, pos, ◌<ℤ◌}
use Rattle.sc_basis.specs.Products.{dot}

-- at the first of n entries at which f and g differ, f is less, and there is one
abbrev pub LexLess : ℕ → (ℕ → ℤ) → (ℕ → ℤ) → Type 0
LexLess n f g = (k : ℕ) × (k < n) × ((j : ℕ) → j < k → f j ≡ g j) × (f k <ℤ g k)

-- the product of v and b, followed by the entries of v: r + 1 numbers
abbrev pub line : ℕ → (ℕ → ℤ) → (ℕ → ℤ) → ℕ → ℤ
line r b v zero = dot r v b
line r b v (suc k) = v k

-- the first of r + 1 numbers that isn't 0 is positive
abbrev pub IsAbove : ℕ → (ℕ → ℤ) → Type 0
IsAbove r f = LexLess (suc r) (λ k. pos 0) f
