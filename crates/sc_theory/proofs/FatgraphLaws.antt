-- Labelled fatgraphs: sides are counted position by position, and sums over the sides are sums over the words.
use Rattle.std.proofs.Common.{◌≡◌, ℕ, zero, suc, ◌+◌, ◌*◌, ◌<◌, eqb, length, ℤ, pos, ◌*ℤ◌, inl, inr, arith, sym, ap, ◌∙◌}
use Rattle.std.proofs.lemmas.Bool.{cases_eq, eq-eqb, ne_eqb}
use Rattle.sc_algebra.specs.Sums.{sum_below}
use Rattle.sc_algebra.specs.Permutations.{IsPermutation}
use Rattle.sc_algebra.proofs.Ints.{mul-one, mul_assoc, pos-mul, mul-zero, same-pos, cancel}
use Rattle.sc_algebra.proofs.Sums.{sum-congr, sum-mul_left, sum-const, count-congr, sum_by_value}
use Rattle.sc_algebra.proofs.Permutations.{compose, involution, count-reindex, antisymmetric-cancel}
use Rattle.sc_theory.specs.Chains.{Chain, IsBalanced, weight, word, positions, weighted_length, first, word_of, letter, succ, prev, chain_total}
use Rattle.sc_theory.specs.Fatgraphs.{Sides, label, mate, next, turn, quota, sides_at, IsFatgraph}
use Rattle.sc_theory.proofs.ChainLaws.{at, place_inside, word_inside, word_of_place, letter_place, succ_within, neighbours}
use Rattle.sc_theory.proofs.ChainSums.{sum_positions, weighted_length_sum, sign, total_sum, chain_total_sum, sign_inverse}

-- the next position is the same only for the same position
same_next : (c : Chain) (i j : ℕ) → i < positions c → j < positions c → eqb (succ c i) (succ c j) ≡ eqb i j
same_next c i j from to =
    elim (cases_eq i j) [
      | inl same ↦ eq-eqb (succ c i) (succ c j) (ap (succ c) same) ∙ sym (eq-eqb i j same)
      | inr other ↦
          let apart : succ c i ≡ succ c j → ⊥ = λ e. other (sym (neighbours c i from).prev-succ ∙ ap (prev c) e ∙ (neighbours c j to).prev-succ) in
          ne_eqb (succ c i) (succ c j) apart ∙ sym (ne_eqb i j other)
    ]

-- a sum of m ones is m
pub ones : (m : ℕ) → sum_below (λ _. pos 1) m ≡ pos m
ones m = sum-const (pos 1) m ∙ mul-one (pos m)

module _ (c : Chain) (n : ℕ) (g : Sides) (is : IsFatgraph c n g) where
  -- to take the next side, the mate, or to turn permutes the sides
  pub next_permutes : IsPermutation (next g) (length g)
  next_permutes = record { into = is.nexts; apart = is.apart }

  pub mate_permutes : IsPermutation (mate g) (length g)
  mate_permutes = involution (mate g) (length g) is.mates is.back

  pub turn_permutes : IsPermutation (turn g) (length g)
  turn_permutes = compose mate_permutes next_permutes

  sides_next : (i : ℕ) → i < positions c → sides_at g (succ c i) ≡ sides_at g i
  sides_next i inside =
      sym (count-reindex (next g) (length g) (λ s. eqb (label g s) (succ c i)) next_permutes)
      ∙ count-congr (λ s. eqb (label g (next g s)) (succ c i)) (λ s. eqb (label g s) i) (length g)
      (λ s h. ap (λ (j : ℕ). eqb j (succ c i)) (is.follows s h) ∙ same_next c (label g s) i (is.labels s h) inside)

  -- each place of a word is the label of as many sides as its first one
  pub sides_like_first : (w k : ℕ) → k < length (word c w) → sides_at g (first c w + k) ≡ sides_at g (first c w)
  sides_like_first w zero inside = ap (sides_at g) (omega arith)
  sides_like_first w (suc k) inside =
      ap (sides_at g) (sym (succ_within c w k inside)) ∙ sides_next (first c w + k) (place_inside c w k (omega arith)) ∙ sides_like_first w k (omega arith)

  -- each place of a word is the label of as many sides as the copies run along the word
  pub sides_of_place : (w k : ℕ) → k < length (word c w) → sides_at g (first c w + k) ≡ quota c n w
  sides_of_place w k inside = sides_like_first w k inside ∙ is.counts w (word_inside c w k inside)

  -- a sum over the labels of all sides, word by word
  pub sum_labels : (f : ℕ → ℤ) → sum_below (λ s. f (label g s)) (length g) ≡ sum_below (λ w. pos (sides_at g (first c w)) *ℤ sum_below (λ k. f (first c w + k)) (length (word c w))) (length c)
  sum_labels f =
      sym (sum_by_value (label g) f (positions c) (length g) is.labels)
      ∙ sum_positions c (λ i. pos (sides_at g i) *ℤ f i)
      ∙ sum-congr _ _ (length c) (λ w _.
      sum-congr _ _ (length (word c w)) (λ k inside. ap (λ (m : ℕ). pos m *ℤ f (first c w + k)) (sides_like_first w k inside))
      ∙ sum-mul_left (pos (sides_at g (first c w))) (λ k. f (first c w + k)) (length (word c w)))

  -- the same with the weights and the copies
  pub sum_labels_weighted : (f : ℕ → ℤ) → sum_below (λ s. f (label g s)) (length g) ≡ pos n *ℤ sum_below (λ w. pos (weight c w) *ℤ sum_below (λ k. f (first c w + k)) (length (word c w))) (length c)
  sum_labels_weighted f =
      let inner : ℕ → ℤ = λ w. sum_below (λ k. f (first c w + k)) (length (word c w)) in
      sum_labels f
      ∙ sum-congr _ _ (length c) (λ w inside.
      ap (λ (m : ℕ). pos m *ℤ inner w) (is.counts w inside)
      ∙ ap (λ (a : ℤ). a *ℤ inner w) (pos-mul n (weight c w))
      ∙ mul_assoc (pos n) (pos (weight c w)) (inner w))
      ∙ sum-mul_left (pos n) (λ w. pos (weight c w) *ℤ inner w) (length c)

  -- the sides are as many as the copies times the weighted length
  pub length_is : length g ≡ n * weighted_length c
  length_is =
      same-pos (length g) (n * weighted_length c)
      (sym (ones (length g))
      ∙ sum_labels_weighted (λ _. pos 1)
      ∙ ap (λ (a : ℤ). pos n *ℤ a) (sum-congr _ _ (length c) (λ w _. ap (λ (a : ℤ). pos (weight c w) *ℤ a) (ones (length (word c w)))) ∙ weighted_length_sum c)
      ∙ sym (pos-mul n (weighted_length c)))

  -- a chain with a labelled fatgraph over it is balanced
  pub balanced : IsBalanced c
  balanced x =
      let f : ℕ → ℤ = λ i. sign x (letter c i) in
      let by_words : sum_below (λ s. f (label g s)) (length g) ≡ pos n *ℤ chain_total x c =
      sum_labels_weighted f
      ∙ ap (λ (a : ℤ). pos n *ℤ a)
      (sum-congr _ _ (length c) (λ w _. ap (λ (a : ℤ). pos (weight c w) *ℤ a)
      (sum-congr _ _ (length (word c w)) (λ k inside. ap (sign x) (letter_place c w k inside)) ∙ total_sum x (word c w)))
      ∙ chain_total_sum x c) in
      let by_mates : sum_below (λ s. f (label g s)) (length g) ≡ pos 0 =
      antisymmetric-cancel (mate g) (length g) (λ s. f (label g s)) is.mates is.back
      (λ s inside. ap (sign x) (is.inverse s inside) ∙ sign_inverse x (letter c (label g s))) in
      cancel n (chain_total x c) (pos 0) is.copies (sym by_words ∙ by_mates ∙ sym (mul-zero (pos n)))

  -- each position is the label of as many sides as the copies run along its word
  pub sides_of_position : (i : ℕ) → i < positions c → sides_at g i ≡ quota c n (word_of c i)
  sides_of_position i inside =
      let a = at c i inside in
      ap (sides_at g) a.here ∙ sides_of_place a.w a.k a.in_word
      ∙ ap (quota c n) (sym (ap (word_of c) a.here ∙ word_of_place c a.w a.k a.in_word))
