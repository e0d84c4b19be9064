-- Closed walks whose columns come to n times the right side have n times the chain's weighted length of steps.
use Rattle.std.proofs.Common.{◌≡◌, ℕ, ◌+◌, ◌*◌, ◌<◌, ltb, List, [], ◌∷◌, length, ℤ, pos, ◌+ℤ◌, ◌*ℤ◌, arith, sym, ap, ap₂, ◌∙◌}
use Rattle.std.specs.List.{AllByRecursion}
use Rattle.std.proofs.lemmas.Int.{ints}
use Rattle.std.proofs.lemmas.Bool.{lt-ltb, le-ltb, cond-true, cond-false}
use Rattle.sc_algebra.specs.Sums.{sum_below}
use Rattle.sc_algebra.proofs.Ints.{mul_add, mul-zero, mul_comm, mul_left_comm, pos-mul, same-pos}
use Rattle.sc_algebra.proofs.Sums.{sum-congr, sum-add, sum-append, sum-mul_left, sum_zero_each}
use Rattle.sc_theory.specs.Chains.{Chain, weight, word, weighted_length}
use Rattle.sc_theory.specs.Walks.{IsClosedWalk}
use Rattle.sc_theory.specs.Prices.{pairs}
use Rattle.sc_theory.specs.Columns.{rows, word_at, column, right_side, length_row}
use Rattle.sc_theory.proofs.ChainSums.{weighted_length_sum}
use Rattle.sc_theory.proofs.ColumnLaws.{length_product}
use Rattle.sc_gluing.specs.Cycles.{cycles_column, AreCycles}
use Rattle.sc_gluing.proofs.CycleLaws.{size, size-cons}

-- the product of the length row with the columns is the number of sides
size_product : (c : Chain) (ws : List (List ℕ)) → AllByRecursion (IsClosedWalk c) ws → sum_below (λ k. length_row c k *ℤ cycles_column c ws k) (rows c) ≡ pos (size ws)
size_product c [] walks = sum_zero_each (λ k. length_row c k *ℤ pos 0) (rows c) (λ k _. mul-zero (length_row c k))
size_product c (w ∷ ws) walks =
    sum-congr (λ k. length_row c k *ℤ (column c w k +ℤ cycles_column c ws k)) (λ k. length_row c k *ℤ column c w k +ℤ length_row c k *ℤ cycles_column c ws k) (rows c) (λ k _. mul_add (length_row c k) (column c w k) (cycles_column c ws k))
    ∙ sum-add (λ k. length_row c k *ℤ column c w k) (λ k. length_row c k *ℤ cycles_column c ws k) (rows c)
    ∙ ap₂ (λ (x y : ℤ). x +ℤ y) (length_product c w walks.0) (size_product c ws walks.1)
    ∙ sym (ap pos (size-cons w ws))

in_pair_row : (c : Chain) (k : ℕ) → k < length (pairs c) → length_row c k *ℤ right_side c k ≡ pos 0
in_pair_row c k inside =
    ap (λ (x : ℤ). length_row c k *ℤ x) (cond-true (ltb k (length (pairs c))) (pos 0) (pos (weight c (word_at c k))) (lt-ltb k (length (pairs c)) inside))
    ∙ mul-zero (length_row c k)

in_word_row : (c : Chain) (w : ℕ) → length_row c (length (pairs c) + w) *ℤ right_side c (length (pairs c) + w) ≡ pos (weight c w) *ℤ pos (length (word c w))
in_word_row c w =
    let k : ℕ = length (pairs c) + w in
    let e : word_at c k ≡ w = omega arith in
    ap₂ (λ (x y : ℤ). x *ℤ y)
    (cond-false (ltb k (length (pairs c))) _ (pos (length (word c (word_at c k)))) (le-ltb k (length (pairs c)) (omega arith)) ∙ ap (λ (v : ℕ). pos (length (word c v))) e)
    (cond-false (ltb k (length (pairs c))) (pos 0) (pos (weight c (word_at c k))) (le-ltb k (length (pairs c)) (omega arith)) ∙ ap (λ (v : ℕ). pos (weight c v)) e)
    ∙ mul_comm (pos (length (word c w))) (pos (weight c w))

side_product : (c : Chain) → sum_below (λ k. length_row c k *ℤ right_side c k) (rows c) ≡ pos (weighted_length c)
side_product c =
    sum-append (λ k. length_row c k *ℤ right_side c k) (length (pairs c)) (length c)
    ∙ ap₂ (λ (x y : ℤ). x +ℤ y)
    (sum_zero_each (λ k. length_row c k *ℤ right_side c k) (length (pairs c)) (in_pair_row c))
    (sum-congr (λ w. length_row c (length (pairs c) + w) *ℤ right_side c (length (pairs c) + w)) (λ w. pos (weight c w) *ℤ pos (length (word c w))) (length c) (λ w _. in_word_row c w) ∙ weighted_length_sum c)
    ∙ none_before (pos (weighted_length c))
  where
    none_before : (x : ℤ) → pos 0 +ℤ x ≡ x
    none_before x = omega (arith, ints)

-- the cycles have n times the weighted length of places
pub cycles_size : (c : Chain) (n : ℕ) (ws : List (List ℕ)) → AreCycles c n ws → size ws ≡ n * weighted_length c
cycles_size c n ws is =
    same-pos (size ws) (n * weighted_length c)
    (sym (size_product c ws is.closed)
    ∙ sum-congr (λ k. length_row c k *ℤ cycles_column c ws k) (λ k. pos n *ℤ (length_row c k *ℤ right_side c k)) (rows c)
    (λ k inside. ap (λ (x : ℤ). length_row c k *ℤ x) (is.sums k inside) ∙ mul_left_comm (length_row c k) (pos n) (right_side c k))
    ∙ sum-mul_left (pos n) (λ k. length_row c k *ℤ right_side c k) (rows c)
    ∙ ap (λ (x : ℤ). pos n *ℤ x) (side_product c)
    ∙ sym (pos-mul n (weighted_length c)))
