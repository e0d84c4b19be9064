-- The chain of a direction is linear in the direction: its weights, its weighted length, a list's bound and value, its
-- totals.
use Rattle.std.proofs.Common.{◌≡◌, ℕ, zero, suc, ◌+◌, ◌*◌, [], ◌∷◌, length, get_or, ℤ, pos, ◌+ℤ◌, ◌-ℤ◌, ◌*ℤ◌, arith, sym, ap, ap₂, ◌∙◌}
use Rattle.std.proofs.lemmas.Int.{ints}
use Rattle.sc_algebra.specs.Sums.{sum_below}
use Rattle.sc_algebra.proofs.Ints.{products}
use Rattle.sc_algebra.proofs.Sums.{sum-congr, sum-add, sum-mul_left}
use Rattle.sc_theory.specs.Words.{Word}
use Rattle.sc_theory.specs.Chains.{Chain, weight, word, weighted_length}
use Rattle.sc_theory.specs.Prices.{Prices, bound}
use Rattle.sc_theory.proofs.ChainSums.{weighted_length_sum}
use Rattle.sc_cone.specs.Cones.{times, cone}
use Rattle.sc_cone.specs.Values.{list_num}
use Rattle.sc_cone.proofs.SameWords.{Same}
use Rattle.sc_cone.proofs.ConeChains.{same_cones}

nothing : (k i j : ℕ) → k * 0 ≡ i * 0 + j * 0
nothing k i j = omega arith

scaled : (k i j a b m x : ℕ) → k * m ≡ i * a + j * b → k * (m * x) ≡ i * (a * x) + j * (b * x)
scaled k i j a b m x e = omega (arith, ap (λ (t : ℕ). t * x) e)

weights_times : (k i j a b m : ℕ) → k * m ≡ i * a + j * b → (c : Chain) (w : ℕ) → k * weight (times m c) w ≡ i * weight (times a c) w + j * weight (times b c) w
weights_times k i j a b m e [] w = nothing k i j
weights_times k i j a b m e (u ∷ c) zero = scaled k i j a b m u.0 e
weights_times k i j a b m e (u ∷ c) (suc w) = weights_times k i j a b m e c w

-- the weights of k (m, n) = i (a, b) + j (a', b')
pub weights_combined : (k i j a b a' b' m n : ℕ) → k * m ≡ i * a + j * a' → k * n ≡ i * b + j * b' → (c d : Chain) (w : ℕ) → k * weight (cone c d m n) w ≡ i * weight (cone c d a b) w + j * weight (cone c d a' b') w
weights_combined k i j a b a' b' m n e h [] d w = weights_times k i j b b' n h d w
weights_combined k i j a b a' b' m n e h (u ∷ c) d zero = scaled k i j a a' m u.0 e
weights_combined k i j a b a' b' m n e h (u ∷ c) d (suc w) = weights_combined k i j a b a' b' m n e h c d w

-- sums of weights times anything
weighed : (k i j x y z : ℕ) (f : ℤ) → k * z ≡ i * x + j * y → pos k *ℤ (pos z *ℤ f) ≡ pos i *ℤ (pos x *ℤ f) +ℤ pos j *ℤ (pos y *ℤ f)
weighed k i j x y z f e =
    let h : pos k *ℤ pos z ≡ pos i *ℤ pos x +ℤ pos j *ℤ pos y = ap pos e in
    let g = simp products at (ap (λ (t : ℤ). t *ℤ f) h) in
    simp products (omega (arith, ints, g))

sum_weighed : (k i j : ℕ) (x y z : ℕ → ℕ) (f : ℕ → ℤ) (n : ℕ) → ((w : ℕ) → k * z w ≡ i * x w + j * y w) → pos k *ℤ sum_below (λ w. pos (z w) *ℤ f w) n ≡ pos i *ℤ sum_below (λ w. pos (x w) *ℤ f w) n +ℤ pos j *ℤ sum_below (λ w. pos (y w) *ℤ f w) n
sum_weighed k i j x y z f n e =
    sym (sum-mul_left (pos k) (λ w. pos (z w) *ℤ f w) n)
    ∙ sum-congr (λ w. pos k *ℤ (pos (z w) *ℤ f w)) (λ w. pos i *ℤ (pos (x w) *ℤ f w) +ℤ pos j *ℤ (pos (y w) *ℤ f w)) n (λ w inside. weighed k i j (x w) (y w) (z w) (f w) (e w))
    ∙ sum-add (λ w. pos i *ℤ (pos (x w) *ℤ f w)) (λ w. pos j *ℤ (pos (y w) *ℤ f w)) n
    ∙ ap₂ (λ (s t : ℤ). s +ℤ t) (sum-mul_left (pos i) (λ w. pos (x w) *ℤ f w) n) (sum-mul_left (pos j) (λ w. pos (y w) *ℤ f w) n)

double : (a : ℤ) → pos 2 *ℤ a ≡ a +ℤ a
double a = omega (arith, ints)

value_plain : (k i j d l b l' b' m n : ℤ) → k *ℤ m ≡ i *ℤ l +ℤ j *ℤ l' → k *ℤ n ≡ i *ℤ b +ℤ j *ℤ b' → k *ℤ (d *ℤ m -ℤ (n +ℤ n)) ≡ i *ℤ (d *ℤ l -ℤ (b +ℤ b)) +ℤ j *ℤ (d *ℤ l' -ℤ (b' +ℤ b'))
value_plain k i j d l b l' b' m n e h =
    let g = simp products at (ap (λ (t : ℤ). d *ℤ t) e) in
    simp products (omega (arith, ints, g, h))

value_combined : (k i j d l b l' b' m n : ℤ) → k *ℤ m ≡ i *ℤ l +ℤ j *ℤ l' → k *ℤ n ≡ i *ℤ b +ℤ j *ℤ b' → k *ℤ (d *ℤ m -ℤ pos 2 *ℤ n) ≡ i *ℤ (d *ℤ l -ℤ pos 2 *ℤ b) +ℤ j *ℤ (d *ℤ l' -ℤ pos 2 *ℤ b')
value_combined k i j d l b l' b' m n e h = rw (double n, double b, double b') (value_plain k i j d l b l' b' m n e h)

module _ (k i j a b a' b' m n : ℕ) (first : k * m ≡ i * a + j * a') (second : k * n ≡ i * b + j * b') (c d : Chain) where
  -- at a combination of two directions a list's bound, the weighted length and a list's value are so combined
  pub bounds_combined : (list : Prices) → pos k *ℤ bound (cone c d m n) list ≡ pos i *ℤ bound (cone c d a b) list +ℤ pos j *ℤ bound (cone c d a' b') list
  bounds_combined list =
      let f : ℕ → ℤ = λ w. get_or list.base w (pos 0) in
      let x : Chain = cone c d a b in
      let y : Chain = cone c d a' b' in
      let z : Chain = cone c d m n in
      sum_weighed k i j (weight x) (weight y) (weight z) f (length z) (weights_combined k i j a b a' b' m n first second c d)
      ∙ ap₂ (λ (s t : ℕ). pos i *ℤ sum_below (λ w. pos (weight x w) *ℤ f w) s +ℤ pos j *ℤ sum_below (λ w. pos (weight y w) *ℤ f w) t)
      (same_cones c d m n a b).size (same_cones c d m n a' b').size

  length_of : (p q : ℕ) → sum_below (λ w. pos (weight (cone c d p q) w) *ℤ pos (length (word (cone c d m n) w))) (length (cone c d m n)) ≡ pos (weighted_length (cone c d p q))
  length_of p q =
      let x : Chain = cone c d p q in
      let z : Chain = cone c d m n in
      let same : Same z x = same_cones c d m n p q in
      ap (λ (s : ℕ). sum_below (λ w. pos (weight x w) *ℤ pos (length (word z w))) s) same.size
      ∙ sum-congr (λ w. pos (weight x w) *ℤ pos (length (word z w))) (λ w. pos (weight x w) *ℤ pos (length (word x w))) (length x) (λ w inside. ap (λ (v : Word). pos (weight x w) *ℤ pos (length v)) (same.word w))
      ∙ weighted_length_sum x

  pub lengths_combined : pos k *ℤ pos (weighted_length (cone c d m n)) ≡ pos i *ℤ pos (weighted_length (cone c d a b)) +ℤ pos j *ℤ pos (weighted_length (cone c d a' b'))
  lengths_combined =
      let z : Chain = cone c d m n in
      ap (λ (t : ℤ). pos k *ℤ t) (sym (length_of m n))
      ∙ sum_weighed k i j (weight (cone c d a b)) (weight (cone c d a' b')) (weight z) (λ w. pos (length (word z w))) (length z) (weights_combined k i j a b a' b' m n first second c d)
      ∙ ap₂ (λ (s t : ℤ). pos i *ℤ s +ℤ pos j *ℤ t) (length_of a b) (length_of a' b')

  pub values_combined : (list : Prices) → pos k *ℤ list_num (cone c d m n) list ≡ pos i *ℤ list_num (cone c d a b) list +ℤ pos j *ℤ list_num (cone c d a' b') list
  values_combined list =
      value_combined (pos k) (pos i) (pos j) list.scale
      (pos (weighted_length (cone c d a b))) (bound (cone c d a b) list) (pos (weighted_length (cone c d a' b'))) (bound (cone c d a' b') list) (pos (weighted_length (cone c d m n))) (bound (cone c d m n) list)
      lengths_combined (bounds_combined list)
