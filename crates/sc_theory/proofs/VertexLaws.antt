-- Vertices and edges: the test for a vertex speaks of all iterates, the sides are even, and no fatgraph has more
-- vertices than edges.
use Rattle.std.proofs.Common.{◌≡◌, ℕ, zero, suc, ◌*◌, ◌/◌, ◌<◌, ◌≤◌, length, ℤ, pos, ◌-ℤ◌, ◌*ℤ◌, ◌≤ℤ◌, IsTrue, ◌↔◌, arith, subst}
use Rattle.std.proofs.lemmas.Int.{ints}
use Rattle.std.specs.Fn.{iterate}
use Rattle.sc_algebra.specs.Permutations.{is_least_for, sum_along}
use Rattle.sc_algebra.proofs.Permutations.{parity}
use Rattle.sc_algebra.proofs.Cycles.{least_means_least, least_from_all, orbit_bound}
use Rattle.sc_theory.specs.Chains.{Chain, IsChain}
use Rattle.sc_theory.specs.Fatgraphs.{Sides, label, mate, turn, vertices, edges, cost, IsFatgraph}
use Rattle.sc_theory.specs.Walks.{IsStep}
use Rattle.sc_theory.proofs.FatgraphLaws.{turn_permutes, ones}
use Rattle.sc_theory.proofs.OrbitWalks.{turn_steps}
use Rattle.sc_theory.proofs.ReducedWords.{no_loop}

halves : (m n : ℕ) → m * 2 ≡ n → n ≡ 2 * (n / 2)
halves m n e = omega arith

not_negative : (v e n : ℕ) → (pos 2 *ℤ pos v) ≤ℤ pos n → n ≡ 2 * e → pos 0 ≤ℤ (pos e -ℤ pos v)
not_negative v e n bound even = omega (arith, ints)

at_least_none : (t : ℕ → ℕ) (k s : ℕ) → pos 0 ≤ℤ sum_along (λ _. pos 1) t k s
at_least_none t zero s = omega (arith, ints)
at_least_none t (suc k) s = let rest = at_least_none t k (t s) in omega (arith, ints)

module _ (c : Chain) (n : ℕ) (g : Sides) (is : IsFatgraph c n g) where
  -- a side is counted as a vertex exactly where no number of turns leads to a lesser side
  pub least_of_all : (s : ℕ) → s < length g → IsTrue (is_least_for (turn g) (length g) s) ↔ ((k : ℕ) → s ≤ iterate (turn g) k s)
  least_of_all s inside = (least_means_least (turn_permutes c n g is) s inside, least_from_all (turn g) (length g) s)

  -- there are two sides for each edge
  pub even_sides : length g ≡ 2 * edges g
  even_sides = halves _ (length g) (parity (mate g) (length g) is.mates is.back is.moves)

  turn_moves : IsChain c → (s : ℕ) → s < length g → turn g s ≡ s → ⊥
  turn_moves chain s inside stays = no_loop c chain (label g s) (subst (λ (x : ℕ). IsStep c (label g s) (label g x)) stays (turn_steps c n g is s inside))

  two_along : IsChain c → (s k : ℕ) → s < length g → iterate (turn g) (suc k) s ≡ s → pos 2 ≤ℤ sum_along (λ _. pos 1) (turn g) (suc k) s
  two_along chain s zero inside back = absurd (turn_moves chain s inside back)
  two_along chain s (suc k) inside back = let rest = at_least_none (turn g) k (turn g (turn g s)) in omega (arith, ints)

  -- over a chain a labelled fatgraph has at least as many edges as vertices
  pub cost_not_negative : IsChain c → pos 0 ≤ℤ cost g
  cost_not_negative chain =
      not_negative (vertices g) (edges g) (length g)
      (subst (λ (x : ℤ). (pos 2 *ℤ pos (vertices g)) ≤ℤ x) (ones (length g))
      (orbit_bound (turn g) (length g) (λ _. pos 1) (pos 2) (turn_permutes c n g is) (two_along chain)))
      even_sides
