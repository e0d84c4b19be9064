-- What the fields of the pairs keep: each pair is of a lesser and a greater position, and stands once; and the places
-- tell that of each.
use Rattle.std.specs.Prelude.{◌≡◌, ℕ, ◌+◌, ◌*◌, ◌<◌, ◌≤◌, List, length, get_or, Option, None}
use Rattle.sc_theory.specs.Prices.{place_of}
use Rattle.sc_chain.specs.declared.limits.TheConstants.{MAX_POSITIONS}
use Rattle.sc_chain.specs.declared.pairs.Pairs.TheInside.{Inside}
use Rattle.sc_chain.specs.Pairs.{place_in}

-- each pair is of a lesser and a greater number below n, and stands at one place
pub record ArePairsBelow (ps : List (ℕ × ℕ)) (n : ℕ) : Type 0 where
  pub ordered : (k : ℕ) → k < length ps → (get_or ps k (0, 0)).0 < (get_or ps k (0, 0)).1
  pub below : (k : ℕ) → k < length ps → (get_or ps k (0, 0)).1 < n
  pub once : (k : ℕ) → k < length ps → place_of ps (get_or ps k (0, 0)).0 (get_or ps k (0, 0)).1 ≡ k

-- two numbers below n have their place in these, by the first of them, then the second
pub record ArePlacesOf (ps : List (ℕ × ℕ)) (n : ℕ) (places : List (Option ℕ)) : Type 0 where
  pub len : length places ≡ n * n
  pub place_at : (p q : ℕ) → p < n → q < n → get_or places (p * n + q) None ≡ place_in ps p q

pub record ArePairPlaces (c : Inside) : Type 0 where
  pub few : c.positions ≤ MAX_POSITIONS
  pub pairs : ArePairsBelow c.pairs.items c.positions
  pub places : ArePlacesOf c.pairs.items c.positions c.places.items
