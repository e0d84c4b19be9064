-- The sides round a vertex: each turn is a step between labels, and an orbit is a closed walk of them.
use Rattle.std.proofs.Common.{◌≡◌, ℕ, zero, suc, ◌<◌, length, ℤ, pos, ◌+ℤ◌, arith, sym, ap, subst, ◌∙◌}
use Rattle.std.proofs.lemmas.Int.{ints}
use Rattle.std.specs.Fn.{iterate}
use Rattle.sc_algebra.specs.Permutations.{sum_along}
use Rattle.sc_theory.specs.Words.{inverse_letter}
use Rattle.sc_theory.specs.Chains.{Chain, letter}
use Rattle.sc_theory.specs.Fatgraphs.{Sides, label, next, turn, IsFatgraph}
use Rattle.sc_theory.specs.Orbits.{labels_from}
use Rattle.sc_theory.specs.Walks.{IsStep, WalksBack, IsClosedWalk, total_back, walk_total}

plus_nothing : (a : ℤ) → a ≡ a +ℤ pos 0
plus_nothing a = omega (arith, ints)

-- the price of the steps along an orbit, as a function of the side that a step leaves
abbrev pub price_at : (ℕ → ℕ → ℤ) → Sides → ℕ → ℤ
price_at price g s = price (label g s) (label g (turn g s))

module _ (c : Chain) (n : ℕ) (g : Sides) (is : IsFatgraph c n g) where
  -- to turn leads from side to side, by a step between their labels
  pub turn_inside : (s : ℕ) → s < length g → turn g s < length g
  turn_inside s inside = is.mates (next g s) (is.nexts s inside)

  pub turn_steps : (s : ℕ) → s < length g → IsStep c (label g s) (label g (turn g s))
  turn_steps s inside = record {
    from = is.labels s inside;
    to = is.labels (turn g s) (turn_inside s inside);
    inverse = is.inverse (next g s) (is.nexts s inside) ∙ ap (λ (i : ℕ). inverse_letter (letter c i)) (is.follows s inside);
  }

  walks_back : (start k s : ℕ) → s < length g → label g (iterate (turn g) (suc k) s) ≡ start → WalksBack c start (label g s) (labels_from g k (turn g s))
  walks_back start zero s inside ends = subst (λ (x : ℕ). IsStep c (label g s) x) ends (turn_steps s inside)
  walks_back start (suc k) s inside ends = (turn_steps s inside, walks_back start k (turn g s) (turn_inside s inside) ends)

  -- the labels of the sides round a vertex are a closed walk
  pub orbit_walks : (s k : ℕ) → s < length g → iterate (turn g) (suc k) s ≡ s → IsClosedWalk c (labels_from g (suc k) s)
  orbit_walks s k inside returns = walks_back (label g s) k s inside (ap (label g) returns)

total_along : (price : ℕ → ℕ → ℤ) (g : Sides) (start k s : ℕ) → label g (iterate (turn g) (suc k) s) ≡ start → total_back price start (label g s) (labels_from g k (turn g s)) ≡ sum_along (price_at price g) (turn g) (suc k) s
total_along price g start zero s ends = ap (price (label g s)) (sym ends) ∙ plus_nothing _
total_along price g start (suc k) s ends = ap (λ (x : ℤ). price_at price g s +ℤ x) (total_along price g start k (turn g s) ends)

-- the total of an orbit's walk is the sum of the prices of its turns
pub orbit_total : (price : ℕ → ℕ → ℤ) (g : Sides) (s k : ℕ) → iterate (turn g) (suc k) s ≡ s → walk_total price (labels_from g (suc k) s) ≡ sum_along (price_at price g) (turn g) (suc k) s
orbit_total price g s k returns = total_along price g (label g s) k s (ap (label g) returns)
