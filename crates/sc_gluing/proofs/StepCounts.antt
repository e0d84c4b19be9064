-- Closed walks whose columns come to a multiple of the right side have as many steps of each kind as of the opposite
-- kind, and pass the first position of each word as often as the copies run along it.
use Rattle.std.proofs.Common.{◌≡◌, ℕ, suc, ◌+◌, ◌*◌, ◌<◌, Bool, true, false, not, eqb, ltb, if◌then◌else◌, List, [], ◌∷◌, ◌++◌, length, replicate, zero, ℤ, pos, ◌+ℤ◌, ◌-ℤ◌, ◌*ℤ◌, inl, inr, arith, refl, sym, ap, ap₂, ◌∙◌}
use Rattle.std.specs.List.{AllByRecursion}
use Rattle.std.proofs.lemmas.Int.{ints}
use Rattle.std.proofs.lemmas.Bool.{cases_order, true≢false, lt-ltb, le-ltb, cond-true, cond-false}
use Rattle.sc_algebra.specs.Sums.{count_below}
use Rattle.sc_algebra.proofs.Ints.{same-pos, mul-zero, pos-mul, suc-mul, zero-mul}
use Rattle.sc_algebra.proofs.Sums.{count-sum}
use Rattle.sc_algebra.proofs.Permutations.{count-reindex}
use Rattle.sc_theory.specs.declared.Letter.{Letter}
use Rattle.sc_theory.specs.Words.{inverse_letter}
use Rattle.sc_theory.specs.Chains.{Chain, positions, weight, first, letter, succ, prev}
use Rattle.sc_theory.specs.Fatgraphs.{quota}
use Rattle.sc_theory.specs.Walks.{IsStep, IsClosedWalk, IsPolygon, walk_total, walks_total}
use Rattle.sc_theory.specs.Prices.{pairs, place_of}
use Rattle.sc_theory.specs.Columns.{rows, pair_at, word_at, right_side}
use Rattle.sc_theory.proofs.WordLaws.{inverse_letter-inverse_letter}
use Rattle.sc_theory.proofs.ChainLaws.{neighbours}
use Rattle.sc_theory.proofs.WalkTotals.{walk_total-sub, ends_at}
use Rattle.sc_theory.proofs.ColumnLaws.{at_step, pair_part, step_column, column_is}
use Rattle.sc_chain.proofs.PairLists.{place_at}
use Rattle.sc_chain.proofs.PairLaws.{IsInversePair, pair_found}
use Rattle.sc_gluing.specs.Cycles.{Parts, copies_of, at, after, goes, cycles_column, AreCycles}
use Rattle.sc_gluing.specs.Gluing.{parts_column, AreBalanced}
use Rattle.sc_gluing.proofs.CycleLaws.{size, sides_total, after_permutes}

-- ---- totals over several walks
pub walks_total-append : (f : ℕ → ℕ → ℤ) (vs ws : List (List ℕ)) → walks_total f (vs ++ ws) ≡ walks_total f vs +ℤ walks_total f ws
walks_total-append f [] ws = omega (arith, ints)
walks_total-append f (v ∷ vs) ws = omega (arith, ints, walks_total-append f vs ws)

pub walks_total-replicate : (f : ℕ → ℕ → ℤ) (n : ℕ) (w : List ℕ) → walks_total f (replicate n w) ≡ pos n *ℤ walk_total f w
walks_total-replicate f zero w = sym (zero-mul (walk_total f w))
walks_total-replicate f (suc n) w = omega (arith, ints, walks_total-replicate f n w, suc-mul n (walk_total f w))

walks_total-sub : (f g : ℕ → ℕ → ℤ) (ws : List (List ℕ)) → walks_total (λ i j. f i j -ℤ g i j) ws ≡ walks_total f ws -ℤ walks_total g ws
walks_total-sub f g [] = refl
walks_total-sub f g (w ∷ ws) = omega (arith, ints, walk_total-sub f g w, walks_total-sub f g ws)

-- ---- the columns of cycles are totals over their steps
pub cycles_column_is : (c : Chain) (ws : List (List ℕ)) (k : ℕ) → cycles_column c ws k ≡ walks_total (step_column c k) ws
cycles_column_is c [] k = refl
cycles_column_is c (w ∷ ws) k = ap₂ (λ (x y : ℤ). x +ℤ y) (column_is c w k) (cycles_column_is c ws k)

pub parts_column_is : (c : Chain) (parts : Parts) (k : ℕ) → parts_column c parts k ≡ walks_total (step_column c k) (copies_of parts)
parts_column_is c [] k = refl
parts_column_is c (p ∷ parts) k =
    ap₂ (λ (x y : ℤ). x +ℤ y)
    (ap (λ (x : ℤ). pos p.1 *ℤ x) (column_is c p.0 k) ∙ sym (walks_total-replicate (step_column c k) p.1 p.0))
    (parts_column_is c parts k)
    ∙ sym (walks_total-append (step_column c k) (replicate p.1 p.0) (copies_of parts))

-- the copies of closed walks are closed walks
closed_copies : (c : Chain) (n : ℕ) (w : List ℕ) (ws : List (List ℕ)) → IsClosedWalk c w → AllByRecursion (IsClosedWalk c) ws → AllByRecursion (IsClosedWalk c) (replicate n w ++ ws)
closed_copies c zero w ws h k = k
closed_copies c (suc n) w ws h k = (h, closed_copies c n w ws h k)

-- copies of polygons are closed walks
pub copies_closed : (c : Chain) (parts : Parts) → AllByRecursion (λ p. IsPolygon c p.0) parts → AllByRecursion (IsClosedWalk c) (copies_of parts)
copies_closed c [] all = tt
copies_closed c (p ∷ parts) all = closed_copies c p.1 p.0 (copies_of parts) all.0.closed (copies_closed c parts all.1)

-- the copies of balanced parts are cycles whose columns come to n times the right side
pub cycles_of_parts : (c : Chain) (n : ℕ) (parts : Parts) → AreBalanced c n parts → AreCycles c n (copies_of parts)
cycles_of_parts c n parts is = record {
  closed = copies_closed c parts is.polygons;
  sums = λ k inside. cycles_column_is c (copies_of parts) k ∙ sym (parts_column_is c parts k) ∙ is.sums k inside;
}

-- ---- steps are counted by a total
count_is_total : (ws : List (List ℕ)) (i j : ℕ) → pos (count_below (goes ws i j) (size ws)) ≡ walks_total (at_step i j) ws
count_is_total ws i j = count-sum (goes ws i j) (size ws) ∙ sides_total (at_step i j) ws

-- the total in the row of a pair, and in that of a word
pair_row : (c : Chain) (ws : List (List ℕ)) (k p q : ℕ) → k < length (pairs c) → pair_at c k ≡ (p, q) → walks_total (step_column c k) ws ≡ walks_total (at_step (prev c p) q) ws -ℤ walks_total (at_step (prev c q) p) ws
pair_row c ws k p q inside here =
    ap (λ (b : Bool). walks_total (λ i j. if b then pair_part c (pair_at c k).0 (pair_at c k).1 i j else ends_at (λ x. eqb x (first c (word_at c k))) i j) ws)
    (lt-ltb k (length (pairs c)) inside)
    ∙ ap (λ (a : ℕ × ℕ). walks_total (pair_part c a.0 a.1) ws) here
    ∙ walks_total-sub (at_step (prev c p) q) (at_step (prev c q) p) ws

word_row : (c : Chain) (ws : List (List ℕ)) (w : ℕ) → walks_total (step_column c (length (pairs c) + w)) ws ≡ walks_total (ends_at (λ x. eqb x (first c w))) ws
word_row c ws w =
    let k : ℕ = length (pairs c) + w in
    let e : word_at c k ≡ w = omega arith in
    ap (λ (b : Bool). walks_total (λ i j. if b then pair_part c (pair_at c k).0 (pair_at c k).1 i j else ends_at (λ x. eqb x (first c (word_at c k))) i j) ws)
    (le-ltb k (length (pairs c)) (omega arith))
    ∙ ap (λ (v : ℕ). walks_total (ends_at (λ x. eqb x (first c v))) ws) e

side_of_pair : (c : Chain) (n k : ℕ) → k < length (pairs c) → pos n *ℤ right_side c k ≡ pos 0
side_of_pair c n k inside =
    ap (λ (x : ℤ). pos n *ℤ x) (cond-true (ltb k (length (pairs c))) (pos 0) (pos (weight c (word_at c k))) (lt-ltb k (length (pairs c)) inside))
    ∙ mul-zero (pos n)

side_of_word : (c : Chain) (n w : ℕ) → pos n *ℤ right_side c (length (pairs c) + w) ≡ pos (n * weight c w)
side_of_word c n w =
    let k : ℕ = length (pairs c) + w in
    let e : word_at c k ≡ w = omega arith in
    ap (λ (x : ℤ). pos n *ℤ x) (cond-false (ltb k (length (pairs c))) (pos 0) (pos (weight c (word_at c k))) (le-ltb k (length (pairs c)) (omega arith)) ∙ ap (λ (v : ℕ). pos (weight c v)) e)
    ∙ sym (pos-mul n (weight c w))

same_where_zero : (m k : ℕ) (x y z : ℤ) → z ≡ pos 0 → z ≡ x -ℤ y → pos m ≡ x → pos k ≡ y → m ≡ k
same_where_zero m k x y z e h f g = omega (arith, ints)

-- a letter isn't its own inverse
not_itself : (b : Bool) → b ≡ not b → ⊥
not_itself true e = true≢false e
not_itself false e = true≢false (sym e)

-- no letter is its own inverse
pub no_own_inverse : (x : Letter) → x ≡ inverse_letter x → ⊥
no_own_inverse x e = not_itself x.inverse (ap (λ (y : Letter). y.inverse) e)

module _ (c : Chain) (n : ℕ) (ws : List (List ℕ)) (is : AreCycles c n ws) where
  -- along a pair there are as many steps in one direction as in the other
  both_ways_along : (p q : ℕ) → IsInversePair c p q → count_below (goes ws (prev c p) q) (size ws) ≡ count_below (goes ws (prev c q) p) (size ws)
  both_ways_along p q pair =
      let k : ℕ = place_of (pairs c) p q in
      let found : k < length (pairs c) = pair_found c p q pair in
      let inside : k < rows c = omega arith in
      same_where_zero (count_below (goes ws (prev c p) q) (size ws)) (count_below (goes ws (prev c q) p) (size ws)) _ _ (cycles_column c ws k)
      (is.sums k inside ∙ side_of_pair c n k found)
      (cycles_column_is c ws k ∙ pair_row c ws k p q found (place_at (pairs c) p q (0, 0) found))
      (count_is_total ws (prev c p) q)
      (count_is_total ws (prev c q) p)

  -- the steps that go the other way are as many
  pub opposite_steps : (i j : ℕ) → IsStep c i j → count_below (goes ws i j) (size ws) ≡ count_below (goes ws (prev c j) (succ c i)) (size ws)
  opposite_steps i j step =
      let p : ℕ = succ c i in
      let back : prev c p ≡ i = (neighbours c i step.from).prev-succ in
      let inside : p < positions c = (neighbours c i step.from).succ_inside in
      let at_i : count_below (goes ws (prev c p) j) (size ws) ≡ count_below (goes ws i j) (size ws) = ap (λ (x : ℕ). count_below (goes ws x j) (size ws)) back in
      elim (cases_order p j) [
        | inl same ↦ absurd (no_own_inverse (letter c j) (step.inverse ∙ ap (λ (x : ℕ). inverse_letter (letter c x)) same))
        | inr (inl less) ↦ sym at_i ∙ both_ways_along p j (record { ordered = less; in_range = step.to; inverse = step.inverse })
        | inr (inr more) ↦ sym at_i ∙ sym (both_ways_along j p (record { ordered = more; in_range = inside; inverse = sym (inverse_letter-inverse_letter (letter c p)) ∙ ap inverse_letter (sym step.inverse) }))
      ]

  -- the first position of a word is passed as often as the copies run along it
  pub passes_word : (w : ℕ) → w < length c → count_below (λ s. eqb (at ws s) (first c w)) (size ws) ≡ quota c n w
  passes_word w inside =
      let k : ℕ = length (pairs c) + w in
      let within : k < rows c = omega arith in
      let test : ℕ → Bool = λ s. eqb (at ws s) (first c w) in
      sym (count-reindex (after ws) (size ws) test (after_permutes ws))
      ∙ same-pos (count_below (λ s. test (after ws s)) (size ws)) (quota c n w)
      (count-sum (λ s. test (after ws s)) (size ws) ∙ sides_total (ends_at (λ x. eqb x (first c w))) ws
      ∙ sym (word_row c ws w) ∙ sym (cycles_column_is c ws k) ∙ is.sums k within ∙ side_of_word c n w)
