-- Said by private functions alone: what is counted over a chain, and how large the numbers are that prices are added
-- up to.
use Rattle.std.specs.Prelude.{ℕ, ℤ, pos, neg_ℤ, ◌*ℤ◌, ◌≤ℤ◌}
use Rattle.sc_text.specs.declared.limits.TheConstants.{MAX_PRICE}

-- at most k prices in size
pub record IsOfPrices (k : ℕ) (z : ℤ) : Type 0 where
  pub low : neg_ℤ (pos k *ℤ MAX_PRICE) ≤ℤ z
  pub high : z ≤ℤ (pos k *ℤ MAX_PRICE)
