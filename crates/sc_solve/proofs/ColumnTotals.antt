-- The product of prices of rows with the column of a closed walk is the total of the walk at those prices.
use Rattle.std.proofs.Common.{◌≡◌, ◌≢◌, ℕ, ◌+◌, ◌<◌, Bool, ◌&&◌, eqb, ltb, if◌then◌else◌, List, [], ◌∷◌, true, false, length, get_or, Option, Some, None, ℤ, pos, neg_ℤ, ◌+ℤ◌, ◌-ℤ◌, ◌*ℤ◌, arith, inl, inr, refl, sym, ap, ap₂, ◌∙◌}
use Rattle.std.proofs.lemmas.Int.{ints}
use Rattle.std.proofs.lemmas.Bool.{cases_eq, eq-eqb, ne_eqb, lt-ltb, le-ltb, cond-true, cond-false, and_from, and_left, and_right}
use Rattle.std.proofs.lemmas.List.FromFn.{get_or-map-range_with_len, length-map-range_with_len}
use Rattle.sc_algebra.specs.Sums.{sum_below}
use Rattle.sc_algebra.proofs.Ints.{mul_comm, mul-zero, mul-one}
use Rattle.sc_algebra.proofs.Sums.{sum-congr, sum-single, sum-append, sum_zero_each}
use Rattle.std.specs.Prelude.{IsSome}
use Rattle.sc_theory.specs.declared.Letter.{Letter}
use Rattle.sc_theory.specs.Chains.{Chain, IsChain, weight, word, positions, first, word_of, succ, prev}
use Rattle.sc_theory.specs.Walks.{IsStep, IsClosedWalk, walk_total}
use Rattle.sc_theory.specs.Prices.{pairs, place_of, pair_price, base_price, price, bound}
use Rattle.sc_theory.specs.Columns.{rows, pair_at, word_at, column, right_side}
use Rattle.sc_theory.proofs.ChainLaws.{place, word_of_place, neighbours}
use Rattle.sc_theory.proofs.ColumnLaws.{at_step, pair_part, step_column, column_is}
use Rattle.sc_theory.proofs.WalkTotals.{walk_total-congr, walk_total-mul, walk_total-sum}
use Rattle.sc_chain.specs.declared.sign.Sign.{Sign}
use Rattle.sc_chain.specs.Pairs.{row_in, row_price}
use Rattle.sc_chain.proofs.PairLists.{IsIn, place_at}
use Rattle.sc_chain.proofs.PairLaws.{IsInversePair, inverse_at, pair_once, pair_of_place, Row, plus, minus, none, row, row_where_inverse, pair_price_is}
use Rattle.sc_basis.specs.Products.{dot}
use Rattle.sc_solve.specs.PriceLevels.{list_by}

-- ---- the rows of pairs
-- a step from i to j is counted in the pair of its next position and j
counted : (c : Chain) (i j p q : ℕ) → i < positions c → p ≡ succ c i → q ≡ j → at_step (prev c p) q i j ≡ pos 1
counted c i j p q from ep eq =
    cond-true (eqb i (prev c p) && eqb j q) (pos 1) (pos 0)
    (and_from (eqb i (prev c p)) (eqb j q) (eq-eqb i (prev c p) (sym (ap (prev c) ep ∙ (neighbours c i from).prev-succ))) (eq-eqb j q (sym eq)))

other_start : (c : Chain) (i j p q : ℕ) → p < positions c → p ≢ succ c i → at_step (prev c p) q i j ≡ pos 0
other_start c i j p q inside other =
    cond-false (eqb i (prev c p) && eqb j q) (pos 1) (pos 0)
    (and_left (eqb i (prev c p)) (eqb j q) (ne_eqb i (prev c p) (λ e. other (sym (ap (succ c) e ∙ (neighbours c p inside).succ-prev)))))

other_end : (c : Chain) (i j p q : ℕ) → q ≢ j → at_step (prev c p) q i j ≡ pos 0
other_end c i j p q other =
    cond-false (eqb i (prev c p) && eqb j q) (pos 1) (pos 0)
    (and_right (eqb i (prev c p)) (eqb j q) (ne_eqb j q (λ e. other (sym e))))

difference : (x y a b : ℤ) → x ≡ a → y ≡ b → x -ℤ y ≡ a -ℤ b
difference x y a b e h = cc

-- the product in the row number k, from the pair of that row
in_pair_row : (c : Chain) (v : ℕ → ℤ) (i j k : ℕ) → k < length (pairs c) → v k *ℤ step_column c k i j ≡ v k *ℤ pair_part c (pair_at c k).0 (pair_at c k).1 i j
in_pair_row c v i j k inside = ap (λ (z : ℤ). v k *ℤ z) (cond-true (ltb k (length (pairs c))) (pair_part c (pair_at c k).0 (pair_at c k).1 i j) _ (lt-ltb k (length (pairs c)) inside))

times_one : (a x : ℤ) → x ≡ pos 1 -ℤ pos 0 → a *ℤ x ≡ a
times_one a x e = ap (λ (z : ℤ). a *ℤ z) e ∙ mul-one a

times_minus_one : (a x : ℤ) → x ≡ pos 0 -ℤ pos 1 → a *ℤ x ≡ neg_ℤ a
times_minus_one a x e = ap (λ (z : ℤ). a *ℤ z) e ∙ turned a
  where
    turned : (b : ℤ) → b *ℤ (pos 0 -ℤ pos 1) ≡ neg_ℤ b
    turned b = omega (arith, ints)

times_nothing : (a x : ℤ) → x ≡ pos 0 -ℤ pos 0 → a *ℤ x ≡ pos 0
times_nothing a x e = ap (λ (z : ℤ). a *ℤ z) e ∙ mul-zero a

module _ (c : Chain) (v : ℕ → ℤ) (i j : ℕ) (step : IsStep c i j) where
  forth : (p q : ℕ) → p < q → q < positions c → p ≡ succ c i → q ≡ j → pair_part c p q i j ≡ pos 1 -ℤ pos 0
  forth p q ordered inside ep eq =
      difference _ _ _ _ (counted c i j p q step.from ep eq) (other_start c i j q p inside (λ e. omega (arith, ordered, ep, e)))

  back : (p q : ℕ) → p < q → q < positions c → p ≡ j → q ≡ succ c i → pair_part c p q i j ≡ pos 0 -ℤ pos 1
  back p q ordered inside ep eq =
      difference _ _ _ _ (other_start c i j p q (omega (arith, ordered, inside)) (λ e. omega (arith, ordered, eq, e))) (counted c i j q p step.from eq ep)

  uncounted : (p q : ℕ) → p < positions c → (p ≡ succ c i → q ≡ j → ⊥) → at_step (prev c p) q i j ≡ pos 0
  uncounted p q inside other =
      elim (cases_eq p (succ c i)) [
        | inl e ↦ other_end c i j p q (λ h. other e h)
        | inr ne ↦ other_start c i j p q inside ne
      ]

  neither : (p q : ℕ) → p < positions c → q < positions c → (p ≡ succ c i → q ≡ j → ⊥) → (p ≡ j → q ≡ succ c i → ⊥) → pair_part c p q i j ≡ pos 0 -ℤ pos 0
  neither p q low high one two = difference _ _ _ _ (uncounted p q low one) (uncounted q p high (λ eq ep. two ep eq))

  -- the pair of a row
  pair_is : (k : ℕ) → k < length (pairs c) → IsInversePair c (pair_at c k).0 (pair_at c k).1
  pair_is k inside = inverse_at c k inside

  at_place : (k p q : ℕ) → k < length (pairs c) → (pair_at c k).0 ≡ p → (pair_at c k).1 ≡ q → place_of (pairs c) p q ≡ k
  at_place k p q inside ep eq = sym (ap₂ (λ (x y : ℕ). place_of (pairs c) x y) ep eq) ∙ pair_once c k inside

  rows_forth : (is_in : IsIn (pairs c) (succ c i) j) → sum_below (λ k. v k *ℤ step_column c k i j) (length (pairs c)) ≡ v (place_of (pairs c) (succ c i) j)
  rows_forth is_in =
      let n : ℕ = length (pairs c) in
      let k : ℕ = place_of (pairs c) (succ c i) j in
      let here : pair_at c k ≡ (succ c i, j) = place_at (pairs c) (succ c i) j (0, 0) is_in in
      let pair : IsInversePair c (succ c i) j = pair_of_place c (succ c i) j is_in in
      sum-single (λ m. v m *ℤ step_column c m i j) n k is_in
      (λ m inside other.
      let own : IsInversePair c (pair_at c m).0 (pair_at c m).1 = pair_is m inside in
      in_pair_row c v i j m inside
      ∙ times_nothing (v m) _
      (neither (pair_at c m).0 (pair_at c m).1 (omega (arith, own.ordered, own.in_range)) own.in_range
      (λ ep eq. other (sym (at_place m (succ c i) j inside ep eq)))
      (λ ep eq. omega (arith, own.ordered, pair.ordered, ep, eq))))
      ∙ in_pair_row c v i j k is_in
      ∙ times_one (v k) _ (forth (pair_at c k).0 (pair_at c k).1 (pair_is k is_in).ordered (pair_is k is_in).in_range (ap (λ (x : ℕ × ℕ). x.0) here) (ap (λ (x : ℕ × ℕ). x.1) here))

  rows_back : (is_in : IsIn (pairs c) j (succ c i)) → sum_below (λ k. v k *ℤ step_column c k i j) (length (pairs c)) ≡ neg_ℤ (v (place_of (pairs c) j (succ c i)))
  rows_back is_in =
      let n : ℕ = length (pairs c) in
      let k : ℕ = place_of (pairs c) j (succ c i) in
      let here : pair_at c k ≡ (j, succ c i) = place_at (pairs c) j (succ c i) (0, 0) is_in in
      let pair : IsInversePair c j (succ c i) = pair_of_place c j (succ c i) is_in in
      sum-single (λ m. v m *ℤ step_column c m i j) n k is_in
      (λ m inside other.
      let own : IsInversePair c (pair_at c m).0 (pair_at c m).1 = pair_is m inside in
      in_pair_row c v i j m inside
      ∙ times_nothing (v m) _
      (neither (pair_at c m).0 (pair_at c m).1 (omega (arith, own.ordered, own.in_range)) own.in_range
      (λ ep eq. omega (arith, own.ordered, pair.ordered, ep, eq))
      (λ ep eq. other (sym (at_place m j (succ c i) inside ep eq)))))
      ∙ in_pair_row c v i j k is_in
      ∙ times_minus_one (v k) _ (back (pair_at c k).0 (pair_at c k).1 (pair_is k is_in).ordered (pair_is k is_in).in_range (ap (λ (x : ℕ × ℕ). x.0) here) (ap (λ (x : ℕ × ℕ). x.1) here))

  module _ (scale : ℤ) where
    price_at : (k : ℕ) → k < length (pairs c) → get_or (list_by c v scale).pair k (pos 0) ≡ v k
    price_at k inside = get_or-map-range_with_len v 0 (length (pairs c)) k k (pos 0) inside (omega arith)

    pairs_by : Row (pairs c) (succ c i) j → sum_below (λ k. v k *ℤ step_column c k i j) (length (pairs c)) ≡ row_price (list_by c v scale) (row_in (pairs c) (succ c i) j)
    pairs_by (plus is_in e) = rows_forth is_in ∙ sym (price_at (place_of (pairs c) (succ c i) j) is_in) ∙ sym (ap (row_price (list_by c v scale)) e)
    pairs_by (minus past is_in e) = rows_back is_in ∙ ap neg_ℤ (sym (price_at (place_of (pairs c) j (succ c i)) is_in)) ∙ sym (ap (row_price (list_by c v scale)) e)
    pairs_by (none past past_too e) = absurd (nothing (row_in (pairs c) (succ c i) j) ((row_where_inverse c (succ c i) j (neighbours c i step.from).succ_inside step.to).1 step.inverse) e)
      where
        nothing : (o : Option (ℕ × Sign)) → IsSome o → o ≡ None → ⊥
        nothing (Some x) some e = cc
        nothing None some e = cc

    pairs_total : sum_below (λ k. v k *ℤ step_column c k i j) (length (pairs c)) ≡ pair_price c (list_by c v scale) (succ c i) j
    pairs_total =
        pairs_by (row (pairs c) (succ c i) j)
        ∙ sym (pair_price_is c (list_by c v scale) (succ c i) j (length-map-range_with_len v 0 (length (pairs c))))

-- ---- the rows of words
word_term : (c : Chain) (v : ℕ → ℤ) (i j w : ℕ) → v (length (pairs c) + w) *ℤ step_column c (length (pairs c) + w) i j ≡ v (length (pairs c) + w) *ℤ (if eqb j (first c w) then pos 1 else pos 0)
word_term c v i j w =
    let k : ℕ = length (pairs c) + w in
    let e : word_at c k ≡ w = omega arith in
    ap (λ (z : ℤ). v k *ℤ z)
    (cond-false (ltb k (length (pairs c))) _ (if eqb j (first c (word_at c k)) then pos 1 else pos 0) (le-ltb k (length (pairs c)) (omega arith))
    ∙ ap (λ (m : ℕ). if eqb j (first c m) then pos 1 else pos 0) e)

chosen : (a : ℤ) (test : Bool) → a *ℤ (if test then pos 1 else pos 0) ≡ (if test then a else pos 0)
chosen a true = mul-one a
chosen a false = mul-zero a

first_is_in : (c : Chain) → IsChain c → (w : ℕ) → w < length c → word_of c (first c w) ≡ w
first_is_in c chain w inside =
    ap (word_of c) (omega arith) ∙ word_of_place c w 0 (nonempty (word c w) (chain.words w inside))
  where
    nonempty : (xs : List Letter) → (xs ≡ [] → ⊥) → 0 < length xs
    nonempty [] some = absurd (some refl)
    nonempty (x ∷ xs) some = omega arith

module _ (c : Chain) (chain : IsChain c) (v : ℕ → ℤ) (scale : ℤ) where
  base_at : (w : ℕ) → w < length c → get_or (list_by c v scale).base w (pos 0) ≡ v (length (pairs c) + w)
  base_at w inside = get_or-map-range_with_len v (length (pairs c)) (length c) w (length (pairs c) + w) (pos 0) inside refl

  words_total : (i j : ℕ) → IsStep c i j → sum_below (λ w. v (length (pairs c) + w) *ℤ step_column c (length (pairs c) + w) i j) (length c) ≡ base_price c (list_by c v scale) j
  words_total i j step =
      let w : ℕ = word_of c j in
      let inside : w < length c = (place c j step.to).in_chain in
      sum-congr _ (λ u. if eqb j (first c u) then v (length (pairs c) + u) else pos 0) (length c) (λ u _. word_term c v i j u ∙ chosen (v (length (pairs c) + u)) (eqb j (first c u)))
      ∙ sum-single (λ u. if eqb j (first c u) then v (length (pairs c) + u) else pos 0) (length c) w inside
      (λ u within other.
      cond-false (eqb j (first c u)) (v (length (pairs c) + u)) (pos 0) (ne_eqb j (first c u) (λ e. other (sym (ap (word_of c) e ∙ first_is_in c chain u within)))))
      ∙ ap (λ (z : ℤ). if eqb j (first c w) then z else pos 0) (sym (base_at w inside))

  -- what a step adds at the prices of the rows is its price
  pub step_total : (i j : ℕ) → IsStep c i j → sum_below (λ k. v k *ℤ step_column c k i j) (rows c) ≡ price c (list_by c v scale) i j
  step_total i j step =
      sum-append (λ k. v k *ℤ step_column c k i j) (length (pairs c)) (length c)
      ∙ ap₂ (λ (x y : ℤ). x +ℤ y) (pairs_total c v i j step scale) (words_total i j step)

  -- prices of the rows times the column of a closed walk are the walk's total at these prices
  pub column_total : (walk : List ℕ) → IsClosedWalk c walk → dot (rows c) v (column c walk) ≡ walk_total (price c (list_by c v scale)) walk
  column_total walk closed =
      sum-congr _ _ (rows c) (λ k _. ap (λ (x : ℤ). v k *ℤ x) (column_is c walk k) ∙ sym (walk_total-mul (v k) (step_column c k) walk))
      ∙ walk_total-sum (λ k i j. v k *ℤ step_column c k i j) (rows c) walk
      ∙ walk_total-congr c _ (price c (list_by c v scale)) step_total walk closed

-- ---- the right side
side_of_pair : (c : Chain) (v : ℕ → ℤ) (k : ℕ) → k < length (pairs c) → v k *ℤ right_side c k ≡ pos 0
side_of_pair c v k inside = ap (λ (z : ℤ). v k *ℤ z) (cond-true (ltb k (length (pairs c))) (pos 0) _ (lt-ltb k (length (pairs c)) inside)) ∙ mul-zero (v k)

side_of_word : (c : Chain) (w : ℕ) → right_side c (length (pairs c) + w) ≡ pos (weight c w)
side_of_word c w =
    let k : ℕ = length (pairs c) + w in
    let e : word_at c k ≡ w = omega arith in
    cond-false (ltb k (length (pairs c))) (pos 0) (pos (weight c (word_at c k))) (le-ltb k (length (pairs c)) (omega arith))
    ∙ ap (λ (m : ℕ). pos (weight c m)) e

weighted : (a : ℤ) (m : ℤ) (b : ℤ) → a ≡ b → a *ℤ m ≡ m *ℤ b
weighted a m b e = mul_comm a m ∙ ap (λ (z : ℤ). m *ℤ z) e

nothing_more : (x y : ℤ) → x ≡ pos 0 → x +ℤ y ≡ y
nothing_more x y e = omega (arith, ints)

-- prices of the rows times the right side are the bound of their price list
pub right_side_total : (c : Chain) (v : ℕ → ℤ) (scale : ℤ) → dot (rows c) v (right_side c) ≡ bound c (list_by c v scale)
right_side_total c v scale =
    sum-append (λ k. v k *ℤ right_side c k) (length (pairs c)) (length c)
    ∙ nothing_more _ _ (sum_zero_each (λ k. v k *ℤ right_side c k) (length (pairs c)) (side_of_pair c v))
    ∙ sum-congr _ _ (length c) (λ w inside.
    ap (λ (z : ℤ). v (length (pairs c) + w) *ℤ z) (side_of_word c w)
    ∙ weighted (v (length (pairs c) + w)) (pos (weight c w)) _ (sym (get_or-map-range_with_len v (length (pairs c)) (length c) w (length (pairs c) + w) (pos 0) inside refl)))
