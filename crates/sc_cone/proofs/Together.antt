-- Copies of labelled fatgraphs over two directions of a quadrant are one over a combination of the directions, and
-- tight for a list that is tight for both.
use Rattle.std.proofs.Common.{◌≡◌, ℕ, ◌+◌, ◌*◌, ◌<◌, length, ℤ, pos, ◌+ℤ◌, ◌*ℤ◌, unsigned_abs, arith, ap, ap₂, subst, ◌∙◌}
use Rattle.std.proofs.lemmas.Int.{ints}
use Rattle.sc_algebra.proofs.Ints.{products}
use Rattle.sc_theory.specs.Chains.{Chain, IsChain, weight, first}
use Rattle.sc_theory.specs.Fatgraphs.{Sides, sides_at, vertices, quota, IsFatgraph}
use Rattle.sc_theory.specs.Prices.{Prices, Covers, bound, IsTight}
use Rattle.sc_cone.specs.declared.Direction.{Direction}
use Rattle.sc_cone.specs.declared.Quadrant.{Quadrant}
use Rattle.sc_cone.specs.Directions.{IsIn, IsCombination}
use Rattle.sc_cone.specs.Cones.{cone, second_words, chain_of, quadrant_chain}
use Rattle.sc_cone.specs.Values.{IsTightAt}
use Rattle.sc_cone.specs.Unions.{together}
use Rattle.sc_cone.proofs.SameWords.{Same}
use Rattle.sc_cone.proofs.ConeChains.{same_cones, same_quadrant, covers_all}
use Rattle.sc_cone.proofs.ConeSums.{weights_combined, bounds_combined}
use Rattle.sc_cone.proofs.ConeWords.{is_chain}
use Rattle.sc_cone.proofs.Sizes.{Combined, combined}
use Rattle.sc_cone.proofs.ValueLaws.{value_from_tight, tight_from_value, above_from_value}
use Rattle.sc_cone.proofs.SideBySide.{IsRibbon, ribbon_of, ribbon_same, ribbon_together, sides_together, vertices_together}

counted : (k i j n m x y z : ℕ) → k * z ≡ i * x + j * y → (i * m) * (n * x) + (j * n) * (m * y) ≡ (k * (n * m)) * z
counted k i j n m x y z e = omega (arith, ap (λ (t : ℕ). (n * m) * t) e)

some : (k n m : ℕ) → 0 < k → 0 < n → 0 < m → 0 < k * (n * m)
some k n m h p q = grind arith

tight_sum : (d v w b b' s k i j n m : ℤ) → d *ℤ v ≡ n *ℤ b → d *ℤ w ≡ m *ℤ b' → k *ℤ s ≡ i *ℤ b +ℤ j *ℤ b' → d *ℤ ((i *ℤ m) *ℤ v +ℤ (j *ℤ n) *ℤ w) ≡ (k *ℤ (n *ℤ m)) *ℤ s
tight_sum d v w b b' s k i j n m e h l =
    let f = simp products at (ap (λ (t : ℤ). (i *ℤ m) *ℤ t) e) in
    let g = simp products at (ap (λ (t : ℤ). (j *ℤ n) *ℤ t) h) in
    let r = simp products at (ap (λ (t : ℤ). (n *ℤ m) *ℤ t) l) in
    simp products (omega (arith, ints, f, g, r))

module _ (c d : Chain) (k i j a b a' b' x y : ℕ) (above : 0 < k) (first_sum : k * x ≡ i * a + j * a') (second_sum : k * y ≡ i * b + j * b') (n m : ℕ) (g h : Sides) (here : IsFatgraph (cone c d a b) n g) (there : IsFatgraph (cone c d a' b') m h) where
  left_ribbon : IsRibbon (cone c d x y) g
  left_ribbon = ribbon_same (cone c d a b) (cone c d x y) g (same_cones c d a b x y) (ribbon_of (cone c d a b) n g here)

  right_ribbon : IsRibbon (cone c d x y) h
  right_ribbon = ribbon_same (cone c d a' b') (cone c d x y) h (same_cones c d a' b' x y) (ribbon_of (cone c d a' b') m h there)

  counts : (w : ℕ) → w < length (cone c d x y) → sides_at (together (i * m) g (j * n) h) (first (cone c d x y) w) ≡ quota (cone c d x y) (k * (n * m)) w
  counts w inside =
      let one : Same (cone c d x y) (cone c d a b) = same_cones c d x y a b in
      let two : Same (cone c d x y) (cone c d a' b') = same_cones c d x y a' b' in
      let of_g : sides_at g (first (cone c d x y) w) ≡ n * weight (cone c d a b) w = ap (sides_at g) (one.first w) ∙ here.counts w (subst (λ (t : ℕ). w < t) one.size inside) in
      let of_h : sides_at h (first (cone c d x y) w) ≡ m * weight (cone c d a' b') w = ap (sides_at h) (two.first w) ∙ there.counts w (subst (λ (t : ℕ). w < t) two.size inside) in
      sides_together (cone c d x y) g h left_ribbon right_ribbon (i * m) (j * n) (first (cone c d x y) w)
      ∙ ap₂ (λ (s t : ℕ). (i * m) * s + (j * n) * t) of_g of_h
      ∙ counted k i j n m _ _ _ (weights_combined k i j a b a' b' x y first_sum second_sum c d w)

  -- copies of the two, so many that the counts fit, are a labelled fatgraph over the combination
  pub fatgraph_together : IsFatgraph (cone c d x y) (k * (n * m)) (together (i * m) g (j * n) h)
  fatgraph_together =
      let is = ribbon_together (cone c d x y) g h left_ribbon right_ribbon (i * m) (j * n) in
      record {
        copies = some k n m above here.copies there.copies;
        labels = is.labels;
        mates = is.mates;
        nexts = is.nexts;
        back = is.back;
        moves = is.moves;
        inverse = is.inverse;
        apart = is.apart;
        follows = is.follows;
        counts = counts;
      }

  -- a list that is tight for both is tight for it
  pub tight_together : (list : Prices) → IsTight (cone c d a b) list n g → IsTight (cone c d a' b') list m h → IsTight (cone c d x y) list (k * (n * m)) (together (i * m) g (j * n) h)
  tight_together list tight tight' =
      ap (λ (t : ℕ). list.scale *ℤ pos t) (vertices_together (cone c d x y) g h left_ribbon right_ribbon (i * m) (j * n))
      ∙ tight_sum list.scale (pos (vertices g)) (pos (vertices h)) (bound (cone c d a b) list) (bound (cone c d a' b') list) (bound (cone c d x y) list) (pos k) (pos i) (pos j) (pos n) (pos m)
      tight tight' (bounds_combined k i j a b a' b' x y first_sum second_sum c d list)

-- a labelled fatgraph over the chain of a direction is a ribbon over the quadrant's chain
pub ribbon_at : (q : Quadrant) (first second : Chain) (d : Direction) (n : ℕ) (g : Sides) → IsFatgraph (chain_of q first second d) n g → IsRibbon (quadrant_chain q first second) g
ribbon_at q first second d n g is =
    ribbon_same (chain_of q first second d) (quadrant_chain q first second) g (same_quadrant first (second_words q second) (unsigned_abs d.s) (unsigned_abs d.t)) (ribbon_of (chain_of q first second d) n g is)

-- on the directions between two at which a list is tight it is tight
pub tight_combined : (q : Quadrant) (first second : Chain) (list : Prices) (k i j : ℕ) (d e x : Direction) → IsChain first → IsChain second → Covers (quadrant_chain q first second) list → 0 < k → IsIn q d → IsIn q e → IsIn q x → IsCombination k i j d e x → IsTightAt q first second list d → IsTightAt q first second list e → IsTightAt q first second list x
tight_combined q first second list k i j d e x is_first is_second covers above in_d in_e in_x is at_d at_e =
    let other : Chain = second_words q second in
    let by : Combined k i j d e x = combined q k i j d e x in_d in_e in_x is in
    value_from_tight (chain_of q first second x) list (k * (at_d.copies * at_e.copies)) (together (i * at_e.copies) at_d.sides (j * at_d.copies) at_e.sides)
    (is_chain q first second x is_first is_second)
    (above_from_value (chain_of q first second d) list at_d)
    ((covers_all q first second list x).0 covers)
    (fatgraph_together first other k i j _ _ _ _ _ _ above by.first by.second at_d.copies at_e.copies at_d.sides at_e.sides at_d.fatgraph at_e.fatgraph)
    (tight_together first other k i j _ _ _ _ _ _ above by.first by.second at_d.copies at_e.copies at_d.sides at_e.sides at_d.fatgraph at_e.fatgraph list
    (tight_from_value (chain_of q first second d) list at_d) (tight_from_value (chain_of q first second e) list at_e))
