-- The totals of a chain, and the first that isn't 0.
use Rattle.std.specs.Prelude.{◌≡◌, ◌≢◌, ℕ, ◌<◌, ℤ, pos}
use Rattle.sc_theory.specs.Chains.{Chain, chain_total}
use Rattle.sc_words.specs.declared.limits.TheConstants.{GENERATORS}

-- g is the least generator whose total isn't 0, and t is its total
pub record IsFirstUnbalanced (c : Chain) (g : ℕ) (t : ℤ) : Type 0 where
  pub in_range : g < GENERATORS
  pub total_is : t ≡ chain_total g c
  pub unbalanced : t ≢ pos 0
  pub least : (h : ℕ) → h < g → chain_total h c ≡ pos 0
