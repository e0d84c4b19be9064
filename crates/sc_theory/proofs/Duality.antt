-- A price list that covers a chain bounds the vertices of each labelled fatgraph over it: the prices of all turns are
-- summed. Round each vertex the turns are a closed walk, so the sum is at least the scale for each vertex. The prices
-- of the pairs cancel between a side and its mate, and the base prices count the copies of each word.
use Rattle.std.proofs.Common.{◌≡◌, ◌≢◌, ℕ, suc, ◌+◌, ◌<◌, eqb, ltb, cond, [], ◌∷◌, length, get_or, ℤ, pos, ◌+ℤ◌, ◌*ℤ◌, ◌≤ℤ◌, neg_ℤ, inl, inr, arith, refl, sym, ap, subst, ◌∙◌}
use Rattle.std.proofs.lemmas.Int.{ints}
use Rattle.std.proofs.lemmas.Bool.{cases_order, lt-ltb, le-ltb, eq-eqb, ne_eqb, cond-true, cond-false}
use Rattle.std.proofs.Math.IntN.{neg_ℤ-neg_ℤ}
use Rattle.sc_algebra.specs.Sums.{sum_below}
use Rattle.sc_algebra.proofs.Sums.{sum-congr, sum-add, sum-single}
use Rattle.sc_algebra.proofs.Permutations.{reindex, antisymmetric-cancel}
use Rattle.sc_algebra.proofs.Cycles.{orbit_bound}
use Rattle.sc_theory.specs.Words.{Word}
use Rattle.sc_theory.specs.Chains.{Chain, IsChain, weight, word, first, word_of, succ}
use Rattle.sc_theory.specs.Fatgraphs.{Sides, label, mate, next, turn, sides_at, vertices, IsFatgraph}
use Rattle.sc_theory.specs.Orbits.{labels_from}
use Rattle.sc_theory.specs.Prices.{Prices, pairs, place_of, pair_price, base_price, price, Covers, bound}
use Rattle.sc_theory.proofs.ChainLaws.{word_of_place}
use Rattle.sc_theory.proofs.FatgraphLaws.{next_permutes, turn_permutes, sum_labels, sum_labels_weighted}
use Rattle.sc_theory.proofs.OrbitWalks.{price_at, orbit_walks, orbit_total}

-- a price of ordered pairs, with its sign by the order
abbrev by_order : (ℕ → ℕ → ℤ) → ℕ → ℕ → ℤ
by_order y p q = cond (ltb p q) (y p q) (cond (ltb q p) (neg_ℤ (y q p)) (pos 0))

by_order_below : (y : ℕ → ℕ → ℤ) (p q : ℕ) → p < q → by_order y p q ≡ y p q
by_order_below y p q below = cond-true (ltb p q) (y p q) (cond (ltb q p) (neg_ℤ (y q p)) (pos 0)) (lt-ltb p q below)

by_order_above : (y : ℕ → ℕ → ℤ) (p q : ℕ) → q < p → by_order y p q ≡ neg_ℤ (y q p)
by_order_above y p q above =
    cond-false (ltb p q) (y p q) (cond (ltb q p) (neg_ℤ (y q p)) (pos 0)) (le-ltb p q (omega arith)) ∙ cond-true (ltb q p) (neg_ℤ (y q p)) (pos 0) (lt-ltb q p above)

by_order_same : (y : ℕ → ℕ → ℤ) (p q : ℕ) → p ≡ q → by_order y p q ≡ pos 0
by_order_same y p q same =
    cond-false (ltb p q) (y p q) (cond (ltb q p) (neg_ℤ (y q p)) (pos 0)) (le-ltb p q (omega arith)) ∙ cond-false (ltb q p) (neg_ℤ (y q p)) (pos 0) (le-ltb q p (omega arith))

by_order-swap : (y : ℕ → ℕ → ℤ) (p q : ℕ) → by_order y q p ≡ neg_ℤ (by_order y p q)
by_order-swap y p q =
    elim (cases_order p q) [
      | inl same ↦ by_order_same y q p (sym same) ∙ sym (ap neg_ℤ (by_order_same y p q same))
      | inr (inl below) ↦ by_order_above y q p below ∙ sym (ap neg_ℤ (by_order_below y p q below))
      | inr (inr above) ↦ by_order_below y q p above ∙ sym (neg_ℤ-neg_ℤ (y q p)) ∙ sym (ap neg_ℤ (by_order_above y p q above))
    ]

-- the pair price changes its sign with the order
pub pair_price-swap : (c : Chain) (list : Prices) (p q : ℕ) → pair_price c list q p ≡ neg_ℤ (pair_price c list p q)
pair_price-swap c list p q = by_order-swap (λ i j. get_or list.pair (place_of (pairs c) i j) (pos 0)) p q

-- the base price at the places of a word
base_in : (c : Chain) (list : Prices) (w j : ℕ) → word_of c j ≡ w → base_price c list j ≡ (cond (eqb j (first c w)) (get_or list.base w (pos 0)) (pos 0))
base_in c list w j e = ap (λ (v : ℕ). cond (eqb j (first c v)) (get_or list.base v (pos 0)) (pos 0)) e

base_at_first : (c : Chain) (list : Prices) (w : ℕ) → 0 < length (word c w) → base_price c list (first c w + 0) ≡ get_or list.base w (pos 0)
base_at_first c list w inside =
    base_in c list w (first c w + 0) (word_of_place c w 0 inside) ∙ cond-true (eqb (first c w + 0) (first c w)) _ (pos 0) (eq-eqb (first c w + 0) (first c w) (omega arith))

base_after : (c : Chain) (list : Prices) (w k : ℕ) → k < length (word c w) → k ≢ 0 → base_price c list (first c w + k) ≡ pos 0
base_after c list w k inside other =
    let apart : first c w + k ≡ first c w → ⊥ = λ e. other (omega arith) in
    base_in c list w (first c w + k) (word_of_place c w k inside) ∙ cond-false (eqb (first c w + k) (first c w)) (get_or list.base w (pos 0)) (pos 0) (ne_eqb (first c w + k) (first c w) apart)

base_of_word : (c : Chain) (list : Prices) (w : ℕ) → 0 < length (word c w) → sum_below (λ k. base_price c list (first c w + k)) (length (word c w)) ≡ get_or list.base w (pos 0)
base_of_word c list w inside =
    sum-single (λ k. base_price c list (first c w + k)) (length (word c w)) 0 inside (base_after c list w) ∙ base_at_first c list w inside

nonempty : (w : Word) → w ≢ [] → 0 < length w
nonempty [] other = absurd (other refl)
nonempty (x ∷ w) other = omega arith

nothing_plus : (a : ℤ) → pos 0 +ℤ a ≡ a
nothing_plus a = omega (arith, ints)

module _ (c : Chain) (list : Prices) (n : ℕ) (g : Sides) (is : IsFatgraph c n g) where
  -- the pair prices of all turns cancel
  pairs_cancel : sum_below (λ s. pair_price c list (succ c (label g s)) (label g (turn g s))) (length g) ≡ pos 0
  pairs_cancel =
      let y : ℕ → ℤ = λ s. pair_price c list (label g s) (label g (mate g s)) in
      sum-congr _ (λ s. y (next g s)) (length g) (λ s inside. ap (λ (i : ℕ). pair_price c list i (label g (turn g s))) (sym (is.follows s inside)))
      ∙ reindex (next g) (length g) y (next_permutes c n g is)
      ∙ antisymmetric-cancel (mate g) (length g) y is.mates is.back
      (λ s inside. ap (λ (t : ℕ). pair_price c list (label g (mate g s)) (label g t)) (is.back s inside) ∙ pair_price-swap c list (label g s) (label g (mate g s)))

  -- the prices of all turns are the base prices of all sides
  prices_of_turns : sum_below (price_at (price c list) g) (length g) ≡ sum_below (λ s. base_price c list (label g s)) (length g)
  prices_of_turns =
      let after : ℕ → ℤ = λ s. base_price c list (label g (turn g s)) in
      sum-add (λ s. pair_price c list (succ c (label g s)) (label g (turn g s))) after (length g)
      ∙ ap (λ (x : ℤ). x +ℤ sum_below after (length g)) pairs_cancel
      ∙ nothing_plus (sum_below after (length g))
      ∙ reindex (turn g) (length g) (λ s. base_price c list (label g s)) (turn_permutes c n g is)

  -- the vertices are paid for by the prices of all turns
  vertices_paid : Covers c list → (list.scale *ℤ pos (vertices g)) ≤ℤ sum_below (price_at (price c list) g) (length g)
  vertices_paid covers =
      orbit_bound (turn g) (length g) (price_at (price c list) g) list.scale (turn_permutes c n g is)
      (λ s k inside back. subst (λ (x : ℤ). list.scale ≤ℤ x) (orbit_total (price c list) g s k back) (covers (labels_from g (suc k) s) (orbit_walks c n g is s k inside back)))

  -- the scale for each vertex is paid for by the base price of each word, as often as sides are at its first position
  pub duality_by_counts : IsChain c → Covers c list → (list.scale *ℤ pos (vertices g)) ≤ℤ sum_below (λ w. pos (sides_at g (first c w)) *ℤ get_or list.base w (pos 0)) (length c)
  duality_by_counts chain covers =
      subst (λ (x : ℤ). (list.scale *ℤ pos (vertices g)) ≤ℤ x)
      (prices_of_turns
      ∙ sum_labels c n g is (base_price c list)
      ∙ sum-congr _ _ (length c) (λ w inside. ap (λ (x : ℤ). pos (sides_at g (first c w)) *ℤ x) (base_of_word c list w (nonempty (word c w) (chain.words w inside)))))
      (vertices_paid covers)

  -- so it is paid for by the bound for each copy
  pub duality : IsChain c → Covers c list → (list.scale *ℤ pos (vertices g)) ≤ℤ (pos n *ℤ bound c list)
  duality chain covers =
      subst (λ (x : ℤ). (list.scale *ℤ pos (vertices g)) ≤ℤ x)
      (prices_of_turns
      ∙ sum_labels_weighted c n g is (base_price c list)
      ∙ ap (λ (x : ℤ). pos n *ℤ x)
      (sum-congr _ _ (length c) (λ w inside. ap (λ (x : ℤ). pos (weight c w) *ℤ x) (base_of_word c list w (nonempty (word c w) (chain.words w inside))))))
      (vertices_paid covers)
