-- Values of chains: they are unique, a covering list bounds them, and they are a list's value where it is tight.
use Rattle.std.proofs.Common.{◌≡◌, ℕ, ◌*◌, ◌<◌, ℤ, pos, ◌+ℤ◌, ◌-ℤ◌, ◌*ℤ◌, ◌≤ℤ◌, ◌<ℤ◌, ◌↔◌, arith, refl, sym, ap, ap₂, ◌∙◌}
use Rattle.std.proofs.lemmas.Int.{ints}
use Rattle.sc_algebra.proofs.Ints.{products, le_antisymm, mul-le_factor, cancel_le, cancel, cancel_factor}
use Rattle.sc_theory.specs.Chains.{Chain, IsChain, weighted_length}
use Rattle.sc_theory.specs.Fatgraphs.{Sides, vertices, edges, cost, IsFatgraph, IsLeast}
use Rattle.sc_theory.specs.Prices.{Prices, Covers, bound, IsTight}
use Rattle.sc_theory.proofs.FatgraphLaws.{length_is}
use Rattle.sc_theory.proofs.VertexLaws.{even_sides}
use Rattle.sc_theory.proofs.Duality.{duality}
use Rattle.sc_theory.proofs.Leastness.{least}
use Rattle.sc_cone.specs.Values.{IsValueOf, list_num, list_den}

two : (a : ℤ) → pos 2 *ℤ a ≡ a +ℤ a
two a = omega (arith, ints)

four : (a : ℤ) → pos 4 *ℤ a ≡ (a +ℤ a) +ℤ (a +ℤ a)
four a = omega (arith, ints)

-- twice the copies times a list's value is the cost and what tightness lacks, by unit
gap_plain : (d b l n e v : ℤ) → n *ℤ l ≡ e +ℤ e → (d *ℤ l -ℤ (b +ℤ b)) *ℤ (n +ℤ n) ≡ (e -ℤ v) *ℤ ((d +ℤ d) +ℤ (d +ℤ d)) +ℤ (((d *ℤ v -ℤ n *ℤ b) +ℤ (d *ℤ v -ℤ n *ℤ b)) +ℤ ((d *ℤ v -ℤ n *ℤ b) +ℤ (d *ℤ v -ℤ n *ℤ b)))
gap_plain d b l n e v h =
    let g = simp products at (ap (λ (t : ℤ). d *ℤ t) h) in
    simp products (omega (arith, ints, g))

gap : (d b : ℤ) (l n e v : ℕ) → n * l ≡ 2 * e → (d *ℤ pos l -ℤ pos 2 *ℤ b) *ℤ pos (2 * n) ≡ (pos e -ℤ pos v) *ℤ (pos 4 *ℤ d) +ℤ pos 4 *ℤ (d *ℤ pos v -ℤ pos n *ℤ b)
gap d b l n e v h =
    let doubled : pos n *ℤ pos l ≡ pos e +ℤ pos e = ap pos h ∙ two (pos e) in
    ap₂ (λ (s t : ℤ). (d *ℤ pos l -ℤ s) *ℤ t) (two b) (two (pos n))
    ∙ gap_plain d b (pos l) (pos n) (pos e) (pos v) doubled
    ∙ sym (ap₂ (λ (s t : ℤ). (pos e -ℤ pos v) *ℤ s +ℤ t) (four d) (four (d *ℤ pos v -ℤ pos n *ℤ b)))

level : (a c x y : ℤ) → a ≡ c +ℤ pos 4 *ℤ (x -ℤ y) → x ≡ y → a ≡ c
level a c x y e h = omega (arith, ints)

level_back : (a c x y : ℤ) → a ≡ c +ℤ pos 4 *ℤ (x -ℤ y) → a ≡ c → x ≡ y
level_back a c x y e h = omega (arith, ints)

below : (a c x y : ℤ) → a ≡ c +ℤ pos 4 *ℤ (x -ℤ y) → x ≤ℤ y → a ≤ℤ c
below a c x y e h = omega (arith, ints)

module _ (c : Chain) (list : Prices) (n : ℕ) (g : Sides) (is : IsFatgraph c n g) where
  key : list_num c list *ℤ pos (2 * n) ≡ cost g *ℤ list_den list +ℤ pos 4 *ℤ (list.scale *ℤ pos (vertices g) -ℤ pos n *ℤ bound c list)
  key =
      gap list.scale (bound c list) (weighted_length c) n (edges g) (vertices g) (sym (length_is c n g is) ∙ even_sides c n g is)

  -- a list is tight for a labelled fatgraph exactly where the list's value is the cost over twice the copies
  pub tight_is : IsTight c list n g ↔ (list_num c list *ℤ pos (2 * n) ≡ cost g *ℤ list_den list)
  tight_is = (level _ _ _ _ key, level_back _ _ _ _ key)

  -- and where it covers, its value is at most that
  pub bounded : IsChain c → Covers c list → (list_num c list *ℤ pos (2 * n)) ≤ℤ (cost g *ℤ list_den list)
  bounded chain covers = below _ _ _ _ key (duality c list n g is chain covers)

-- quotients by way of a cost and its copies
unique_plain : (a a' p q p' q' k k' : ℤ) → p *ℤ a ≡ k *ℤ q → p' *ℤ a' ≡ k' *ℤ q' → k *ℤ a' ≡ k' *ℤ a → (a *ℤ a') *ℤ (p *ℤ q') ≡ (a *ℤ a') *ℤ (p' *ℤ q)
unique_plain a a' p q p' q' k k' e e' h =
    let f = simp products at (ap (λ (t : ℤ). (t *ℤ a') *ℤ q') e) in
    let g = simp products at (ap (λ (t : ℤ). (t *ℤ a) *ℤ q) e') in
    let s = simp products at (ap (λ (t : ℤ). (t *ℤ q) *ℤ q') h) in
    simp products (omega (arith, ints, f, g, s))

twice_over : (k k' : ℤ) (n n' : ℕ) → k *ℤ pos n' ≡ k' *ℤ pos n → k *ℤ pos (2 * n') ≡ k' *ℤ pos (2 * n)
twice_over k k' n n' h =
    ap (λ (t : ℤ). k *ℤ t) (two (pos n')) ∙ doubled k k' (pos n) (pos n') h ∙ ap (λ (t : ℤ). k' *ℤ t) (sym (two (pos n)))
  where
    doubled : (x y m m' : ℤ) → x *ℤ m' ≡ y *ℤ m → x *ℤ (m' +ℤ m') ≡ y *ℤ (m +ℤ m)
    doubled x y m m' e = simp products (omega (arith, ints, e))

above_twice : (n n' : ℕ) → 0 < n → 0 < n' → 0 < (2 * n) * (2 * n')
above_twice n n' h h' = grind arith

-- a chain has one value
pub unique : (c : Chain) (p q p' q' : ℤ) → IsValueOf c p q → IsValueOf c p' q' → p *ℤ q' ≡ p' *ℤ q
unique c p q p' q' v v' =
    let n : ℕ = v.copies in
    let n' : ℕ = v'.copies in
    let costs : cost v.sides *ℤ pos n' ≡ cost v'.sides *ℤ pos n = le_antisymm _ _ (v.least n' v'.sides v'.fatgraph) (v'.least n v.sides v.fatgraph) in
    cancel ((2 * n) * (2 * n')) (p *ℤ q') (p' *ℤ q) (above_twice n n' v.fatgraph.copies v'.fatgraph.copies)
    (unique_plain (pos (2 * n)) (pos (2 * n')) p q p' q' (cost v.sides) (cost v'.sides) v.fraction v'.fraction (twice_over _ _ n n' costs))

-- a quotient from below
at_most_plain : (a x p q k d : ℤ) → p *ℤ a ≡ k *ℤ q → (q *ℤ (x *ℤ a)) ≤ℤ (q *ℤ (k *ℤ d)) → (a *ℤ (x *ℤ q)) ≤ℤ (a *ℤ (p *ℤ d))
at_most_plain a x p q k d e h =
    let g = simp products at (ap (λ (t : ℤ). t *ℤ d) e) in
    let f = simp products at h in
    omega (arith, ints, f, g)

not_below : (q : ℤ) → pos 0 <ℤ q → pos 0 ≤ℤ q
not_below q h = omega (arith, ints)

-- the value of a covering list is at most the chain's value
pub at_most : (c : Chain) (list : Prices) (p q : ℤ) → IsChain c → Covers c list → IsValueOf c p q → (list_num c list *ℤ q) ≤ℤ (p *ℤ list_den list)
at_most c list p q chain covers v =
    let n : ℕ = v.copies in
    cancel_le (2 * n) _ _ (twice_above n v.fatgraph.copies)
    (at_most_plain (pos (2 * n)) (list_num c list) p q (cost v.sides) (list_den list) v.fraction
    (mul-le_factor q _ _ (not_below q v.above) (bounded c list n v.sides v.fatgraph chain covers)))
  where
    twice_above : (n : ℕ) → 0 < n → 0 < 2 * n
    twice_above n h = omega arith

-- the value by a tight list
four_above : (d : ℤ) → pos 0 <ℤ d → pos 0 <ℤ (pos 4 *ℤ d)
four_above d h = omega (arith, ints)

-- a covering list that is tight for some labelled fatgraph has the chain's value
pub value_from_tight : (c : Chain) (list : Prices) (n : ℕ) (g : Sides) → IsChain c → pos 0 <ℤ list.scale → Covers c list → IsFatgraph c n g → IsTight c list n g → IsValueOf c (list_num c list) (list_den list)
value_from_tight c list n g chain above covers is tight = record {
  copies = n;
  sides = g;
  fatgraph = is;
  least = least c list n g chain above covers is tight;
  above = four_above list.scale above;
  fraction = (tight_is c list n g is).0 tight;
}

-- a list that has the chain's value is tight for a least labelled fatgraph, and its scale is positive
pub tight_from_value : (c : Chain) (list : Prices) (v : IsValueOf c (list_num c list) (list_den list)) → IsTight c list v.copies v.sides
tight_from_value c list v = (tight_is c list v.copies v.sides v.fatgraph).1 v.fraction

scale_above : (d : ℤ) → pos 0 <ℤ (pos 4 *ℤ d) → pos 0 <ℤ d
scale_above d h = omega (arith, ints)

pub above_from_value : (c : Chain) (list : Prices) → IsValueOf c (list_num c list) (list_den list) → pos 0 <ℤ list.scale
above_from_value c list v = scale_above list.scale v.above

-- the value by a least fatgraph
pub value_from_least : (c : Chain) (n : ℕ) (g : Sides) → IsFatgraph c n g → IsLeast c n g → IsValueOf c (cost g) (pos (2 * n))
value_from_least c n g is least = record {
  copies = n;
  sides = g;
  fatgraph = is;
  least = least;
  above = twice_above n is.copies;
  fraction = refl;
}
  where
    twice_above : (n : ℕ) → 0 < n → pos 0 <ℤ pos (2 * n)
    twice_above n h = omega (arith, ints)

-- another fraction of the same number
moved_plain : (a p q p' q' k : ℤ) → p *ℤ a ≡ k *ℤ q → p' *ℤ q ≡ p *ℤ q' → q *ℤ (p' *ℤ a) ≡ q *ℤ (k *ℤ q')
moved_plain a p q p' q' k e h =
    let f = simp products at (ap (λ (t : ℤ). t *ℤ q') e) in
    let g = simp products at (ap (λ (t : ℤ). t *ℤ a) h) in
    simp products (omega (arith, ints, f, g))

not_zero : (q : ℤ) → pos 0 <ℤ q → q ≡ pos 0 → ⊥
not_zero q h e = omega (arith, ints)

-- a fraction of the same number, with a positive denominator, is the value too
pub value_moved : (c : Chain) (p q p' q' : ℤ) → IsValueOf c p q → pos 0 <ℤ q' → p' *ℤ q ≡ p *ℤ q' → IsValueOf c p' q'
value_moved c p q p' q' v above same = record {
  copies = v.copies;
  sides = v.sides;
  fatgraph = v.fatgraph;
  least = v.least;
  above = above;
  fraction = cancel_factor q (p' *ℤ pos (2 * v.copies)) (cost v.sides *ℤ q') (not_zero q v.above) (moved_plain (pos (2 * v.copies)) p q p' q' (cost v.sides) v.fraction same);
}
