-- The distance tables of a price list that covers its chain.
use Rattle.std.specs.Prelude.{◌≡◌, ℕ, ◌<◌, List, Option, Some, None, ℤ, ◌≤ℤ◌}
use Rattle.sc_theory.specs.Chains.{Chain, positions}
use Rattle.sc_theory.specs.Prices.{Prices, Tables, price, entry}
use Rattle.sc_tables.specs.Walks.{LeadsTo}
use Rattle.sc_tables.specs.Totals.{total_along}

-- a is the total price of a walk from s to j that doesn't come back to s, and none costs less
pub record IsLeastPrice (c : Chain) (list : Prices) (s j : ℕ) (a : ℤ) : Type 0 where
  pub reached : (js : List ℕ) × LeadsTo c s j js × (total_along (price c list) s js ≡ a)
  pub least : (js : List ℕ) → LeadsTo c s j js → a ≤ℤ total_along (price c list) s js

-- the least price of a walk from s to j that doesn't come back to s, and none where there is no such walk
abbrev pub IsDistance : Chain → Prices → ℕ → ℕ → Option ℤ → Type 0
IsDistance c list s j (Some a) = IsLeastPrice c list s j a
IsDistance c list s j None = (js : List ℕ) → ¬ LeadsTo c s j js

-- the tables hold the least totals of walks from each start to each position
abbrev pub AreDistances : Chain → Prices → Tables → Type 0
AreDistances c list tables = (s j : ℕ) → s < positions c → j < positions c → IsDistance c list s j (entry tables s j)
