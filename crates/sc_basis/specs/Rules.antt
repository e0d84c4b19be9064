-- Ratios in lowest terms.
use Rattle.std.specs.Prelude.{ℤ}
use Rattle.sc_basis.specs.Products.{IsReduced}

-- q over p is a over m with the greatest common divisor of both taken out
abbrev pub IsLowest : ℤ → ℤ → ℤ → ℤ → Type 0
IsLowest m a p q = IsReduced 1 (λ k. q) p (λ k. a) m
