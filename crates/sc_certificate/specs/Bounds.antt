-- Weight times price over the words of a chain, and how large it is.
use Rattle.std.specs.Prelude.{ℕ, ◌+◌, ◌*◌, ◌≤◌, length, get_or, ℤ, pos, ◌*ℤ◌, unsigned_abs}
use Rattle.sc_algebra.specs.Sums.{sum_below}
use Rattle.sc_theory.specs.Chains.{Chain, weight}
use Rattle.sc_theory.specs.Prices.{Prices}
use Rattle.sc_text.specs.declared.limits.TheConstants.{MAX_PRICE}

-- weight times price, summed over the words of a chain, the first of which is the word number k of the list
abbrev pub bound_from : Chain → Prices → ℕ → ℤ
bound_from c list k = sum_below (λ w. pos (weight c w) *ℤ get_or list.base (k + w) (pos 0)) (length c)

-- no larger than k of the greatest prices
abbrev pub IsWithinPrices : ℕ → ℤ → Type 0
IsWithinPrices k z = unsigned_abs z ≤ k * unsigned_abs MAX_PRICE
