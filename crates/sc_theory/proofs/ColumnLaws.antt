-- The length row: a step from i to j adds 1 and moves from the place of i in its word to that of j, so a closed walk
-- comes to its number of steps.
use Rattle.std.proofs.Common.{◌≡◌, ◌≢◌, ℕ, suc, ◌+◌, ◌-◌, ◌<◌, ◌≤◌, Bool, true, false, ◌&&◌, eqb, ltb, cond, if◌then◌else◌, List, map, length, get_or, ℤ, pos, ◌+ℤ◌, ◌-ℤ◌, ◌*ℤ◌, inl, inr, arith, refl, sym, ap, ◌∙◌}
use Rattle.std.specs.List.{filter}
use Rattle.std.proofs.lemmas.Int.{ints}
use Rattle.std.proofs.lemmas.Bool.{cases_lt, cases_eq, cases_order, lt-ltb, le-ltb, eq-eqb, ne_eqb, cond-true, cond-false, and_from, and_left}
use Rattle.sc_algebra.specs.Sums.{sum_below}
use Rattle.sc_algebra.proofs.Ints.{mul_sub, mul-zero, zero-mul, mul-one}
use Rattle.sc_algebra.proofs.Sums.{sum-congr, sum-sub, sum-single, sum-append, sum_zero_each}
use Rattle.sc_theory.specs.Words.{is_inverse}
use Rattle.sc_theory.specs.Chains.{Chain, word, positions, first, word_of, letter, succ, prev}
use Rattle.sc_theory.specs.Walks.{IsStep, IsClosedWalk, walk_total}
use Rattle.sc_theory.specs.Prices.{is_pair, all_positions, pairs}
use Rattle.sc_theory.specs.Columns.{rows, pair_at, word_at, column, place_in_word, length_row}
use Rattle.sc_theory.proofs.ChainLaws.{at, At, place, word_of_place, succ_within, succ_last, neighbours}
use Rattle.sc_theory.proofs.Decisions.{inverse_of_step}
use Rattle.sc_theory.proofs.ReducedWords.{inverse_before}
use Rattle.sc_theory.proofs.ListSums.{list_sum, list_sum_is, list_sum-flat_map, list_sum-map, list_sum-filter, list_sum-below}
use Rattle.sc_theory.proofs.WalkTotals.{walk_total_choice, walk_total-congr, walk_total-sub, walk_total-mul, walk_total-sum, ends_at, walk_total-ends, climb, walk_total-climb}

-- the place of a position in its word, counted from 0
abbrev offset : Chain → ℕ → ℕ
offset c i = i - first c (word_of c i)

-- 1 at one step, 0 at the others
abbrev pub at_step : ℕ → ℕ → ℕ → ℕ → ℤ
at_step i j a b = if eqb a i && eqb b j then pos 1 else pos 0

-- what a step adds to the row of the pair p, q
abbrev pub pair_part : Chain → ℕ → ℕ → ℕ → ℕ → ℤ
pair_part c p q i j = at_step (prev c p) q i j -ℤ at_step (prev c q) p i j

-- what a step adds to the row number k
abbrev pub step_column : Chain → ℕ → ℕ → ℕ → ℤ
step_column c k i j =
    if ltb k (length (pairs c)) then pair_part c (pair_at c k).0 (pair_at c k).1 i j else ends_at (λ b. eqb b (first c (word_at c k))) i j

-- an entry of a closed walk's column is the sum of what each step adds to the row
pub column_is : (c : Chain) (walk : List ℕ) (k : ℕ) → column c walk k ≡ walk_total (step_column c k) walk
column_is c walk k =
    let p : ℕ = (pair_at c k).0 in
    let q : ℕ = (pair_at c k).1 in
    let test : ℕ → Bool = λ b. eqb b (first c (word_at c k)) in
    walk_total_choice (ltb k (length (pairs c))) _ _ (pair_part c p q) (ends_at test) walk
    (sym (walk_total-sub (at_step (prev c p) q) (at_step (prev c q) p) walk))
    (sym (walk_total-ends test walk))

-- tests of equal numbers
eqb_comm : (a b : ℕ) → eqb a b ≡ eqb b a
eqb_comm a b =
    elim (cases_eq a b) [
      | inl same ↦ eq-eqb a b same ∙ sym (eq-eqb b a (sym same))
      | inr other ↦ ne_eqb a b other ∙ sym (ne_eqb b a (λ e. other (sym e)))
    ]

-- a position is the previous one of p where p is its next one
before_test : (c : Chain) (i p : ℕ) → i < positions c → p < positions c → eqb i (prev c p) ≡ eqb p (succ c i)
before_test c i p from to =
    elim (cases_eq p (succ c i)) [
      | inl same ↦ eq-eqb i (prev c p) (sym (ap (prev c) same ∙ (neighbours c i from).prev-succ)) ∙ sym (eq-eqb p (succ c i) same)
      | inr other ↦ ne_eqb i (prev c p) (λ e. other (sym (ap (succ c) e ∙ (neighbours c p to).succ-prev))) ∙ sym (ne_eqb p (succ c i) other)
    ]

-- a value at one place of a list, 0 at the others
abbrev only : Bool → Bool → ℤ → ℤ
only x y d = if x then (if y then d else pos 0) else pos 0

times_only : (x y : Bool) (d : ℤ) → d *ℤ (if x && y then pos 1 else pos 0) ≡ only x y d
times_only true true d = mul-one d
times_only true false d = mul-zero d
times_only false y d = mul-zero d

only-swap : (x y : Bool) (d : ℤ) → only x y d ≡ only y x d
only-swap true true d = refl
only-swap true false d = refl
only-swap false true d = refl
only-swap false false d = refl

only-zero : (x y : Bool) → only x y (pos 0) ≡ pos 0
only-zero true true = refl
only-zero true false = refl
only-zero false y = refl

pair_term : (t x y u v : Bool) (d : ℤ) → (if t then d *ℤ ((if x && y then pos 1 else pos 0) -ℤ (if u && v then pos 1 else pos 0)) else pos 0) ≡ only x y (if t then d else pos 0) -ℤ only v u (if t then d else pos 0)
pair_term true x y u v d =
    mul_sub d _ _ ∙ ap (λ (e : ℤ). e -ℤ d *ℤ (if u && v then pos 1 else pos 0)) (times_only x y d) ∙ ap (λ (e : ℤ). only x y d -ℤ e) (times_only u v d ∙ only-swap u v d)
pair_term false x y u v d = sym (ap (λ (e : ℤ). e -ℤ only v u (pos 0)) (only-zero x y) ∙ ap (λ (e : ℤ). pos 0 -ℤ e) (only-zero v u))

-- the sum over two places of what is 0 at all others
sum_at_places : (f : ℕ → ℕ → ℤ) (n a b : ℕ) → a < n → b < n → sum_below (λ p. sum_below (λ q. only (eqb p a) (eqb q b) (f p q)) n) n ≡ f a b
sum_at_places f n a b inside_a inside_b =
    sum-single _ n a inside_a (λ p _ other. sum_zero_each _ n (λ q _. cond-false (eqb p a) (if eqb q b then f p q else pos 0) (pos 0) (ne_eqb p a other)))
    ∙ sum-single _ n b inside_b (λ q _ other. cond-true (eqb a a) (if eqb q b then f a q else pos 0) (pos 0) (eq-eqb a a refl) ∙ cond-false (eqb q b) (f a q) (pos 0) (ne_eqb q b other))
    ∙ cond-true (eqb a a) (if eqb b b then f a b else pos 0) (pos 0) (eq-eqb a a refl)
    ∙ cond-true (eqb b b) (f a b) (pos 0) (eq-eqb b b refl)

-- the difference of the places of a pair, 0 where there is none
abbrev places_of_pair : Chain → ℕ → ℕ → ℤ
places_of_pair c p q = if is_pair c p q then pos (place_in_word c p) -ℤ pos (place_in_word c q) else pos 0

is_pair_below : (c : Chain) (p q : ℕ) → p < q → is_inverse (letter c p) (letter c q) ≡ true → is_pair c p q ≡ true
is_pair_below c p q below inverse = and_from (ltb p q) _ (lt-ltb p q below) inverse

is_pair_above : (c : Chain) (p q : ℕ) → q ≤ p → is_pair c p q ≡ false
is_pair_above c p q above = and_left (ltb p q) _ (le-ltb p q above)

places_below : (c : Chain) (p q : ℕ) → p < q → is_inverse (letter c p) (letter c q) ≡ true → places_of_pair c p q ≡ pos (place_in_word c p) -ℤ pos (place_in_word c q)
places_below c p q below inverse = cond-true (is_pair c p q) _ (pos 0) (is_pair_below c p q below inverse)

places_above : (c : Chain) (p q : ℕ) → q ≤ p → places_of_pair c p q ≡ pos 0
places_above c p q above = cond-false (is_pair c p q) (pos (place_in_word c p) -ℤ pos (place_in_word c q)) (pos 0) (is_pair_above c p q above)

both : (a b x y : ℤ) → a ≡ x → b ≡ y → a -ℤ b ≡ x -ℤ y
both a b x y e h = cc

itself : (m n : ℕ) → m ≡ n → pos 0 -ℤ pos 0 ≡ pos m -ℤ pos n
itself m n e = omega (arith, ints)

only_first : (a b : ℤ) → (a -ℤ b) -ℤ pos 0 ≡ a -ℤ b
only_first a b = omega (arith, ints)

only_second : (a b : ℤ) → pos 0 -ℤ (b -ℤ a) ≡ a -ℤ b
only_second a b = omega (arith, ints)

places_of_step : (c : Chain) (a j : ℕ) → is_inverse (letter c a) (letter c j) ≡ true → is_inverse (letter c j) (letter c a) ≡ true → places_of_pair c a j -ℤ places_of_pair c j a ≡ pos (place_in_word c a) -ℤ pos (place_in_word c j)
places_of_step c a j forth back =
    elim (cases_order a j) [
      | inl same ↦ both _ _ _ _ (places_above c a j (omega arith)) (places_above c j a (omega arith)) ∙ itself (place_in_word c a) (place_in_word c j) (ap (place_in_word c) same)
      | inr (inl below) ↦ both _ _ _ _ (places_below c a j below forth) (places_above c j a (omega arith)) ∙ only_first (pos (place_in_word c a)) (pos (place_in_word c j))
      | inr (inr above) ↦ both _ _ _ _ (places_above c a j (omega arith)) (places_below c j a above back) ∙ only_second (pos (place_in_word c a)) (pos (place_in_word c j))
    ]

-- a product of the length row and a step's column in the row of a pair
abbrev at_pair : Chain → ℕ → ℕ → ℕ × ℕ → ℤ
at_pair c i j pq = (pos (place_in_word c pq.0) -ℤ pos (place_in_word c pq.1)) *ℤ pair_part c pq.0 pq.1 i j

pair_row : (c : Chain) (i j k : ℕ) → k < length (pairs c) → length_row c k *ℤ step_column c k i j ≡ at_pair c i j (pair_at c k)
pair_row c i j k inside =
    ap (λ (b : Bool). (if b then pos (place_in_word c (pair_at c k).0) -ℤ pos (place_in_word c (pair_at c k).1) else pos (length (word c (word_at c k))))
    *ℤ (if b then pair_part c (pair_at c k).0 (pair_at c k).1 i j else ends_at (λ x. eqb x (first c (word_at c k))) i j))
    (lt-ltb k (length (pairs c)) inside)

-- a sum over the pairs, as a sum over all pairs of positions
sum_pairs : (c : Chain) (f : ℕ × ℕ → ℤ) → list_sum f (pairs c) ≡ sum_below (λ p. sum_below (λ q. if is_pair c p q then f (p, q) else pos 0) (positions c)) (positions c)
sum_pairs c f =
    list_sum-flat_map f (λ p. map (λ q. (p, q)) (filter (is_pair c p) (all_positions c))) (all_positions c)
    ∙ list_sum-below (λ p. list_sum f (map (λ q. (p, q)) (filter (is_pair c p) (all_positions c)))) (positions c)
    ∙ sum-congr _ _ (positions c) (λ p _.
    list_sum-map f (λ q. (p, q)) (filter (is_pair c p) (all_positions c))
    ∙ list_sum-filter (λ q. f (p, q)) (is_pair c p) (all_positions c)
    ∙ list_sum-below (λ q. if is_pair c p q then f (p, q) else pos 0) (positions c))

-- the step's sum over the rows of pairs
module _ (c : Chain) (i j : ℕ) (step : IsStep c i j) where
  pair_entry : (p q : ℕ) → p < positions c → q < positions c → (if is_pair c p q then at_pair c i j (p, q) else pos 0) ≡ only (eqb p (succ c i)) (eqb q j) (places_of_pair c p q) -ℤ only (eqb p j) (eqb q (succ c i)) (places_of_pair c p q)
  pair_entry p q inside_p inside_q =
      let d : ℤ = pos (place_in_word c p) -ℤ pos (place_in_word c q) in
      let e1 = before_test c i p step.from inside_p in
      let e2 = eqb_comm j q in
      let e3 = before_test c i q step.from inside_q in
      let e4 = eqb_comm j p in
      rw (e1, e2, e3, e4) (pair_term (is_pair c p q) (eqb p (succ c i)) (eqb q j) (eqb q (succ c i)) (eqb p j) d)

  pair_rows : sum_below (λ k. length_row c k *ℤ step_column c k i j) (length (pairs c)) ≡ pos (place_in_word c (succ c i)) -ℤ pos (place_in_word c j)
  pair_rows =
      let n : ℕ = positions c in
      let a : ℕ = succ c i in
      let inside = (neighbours c i step.from).succ_inside in
      let there : ℕ → ℕ → ℤ = λ p q. only (eqb p a) (eqb q j) (places_of_pair c p q) in
      let back : ℕ → ℕ → ℤ = λ p q. only (eqb p j) (eqb q a) (places_of_pair c p q) in
      sum-congr _ (λ k. at_pair c i j (get_or (pairs c) k (0, 0))) (length (pairs c)) (pair_row c i j)
      ∙ list_sum_is (at_pair c i j) (pairs c) (0, 0)
      ∙ sum_pairs c (at_pair c i j)
      ∙ sum-congr _ _ n (λ p inside_p. sum-congr _ _ n (λ q inside_q. pair_entry p q inside_p inside_q) ∙ sum-sub (there p) (back p) n)
      ∙ sum-sub (λ p. sum_below (there p) n) (λ p. sum_below (back p) n) n
      ∙ both _ _ _ _ (sum_at_places (places_of_pair c) n a j inside step.to) (sum_at_places (places_of_pair c) n j a step.to inside)
      ∙ places_of_step c a j (inverse_of_step c i j step) (inverse_before (letter c j) (letter c a) step.inverse)

-- the product of the length row and a step's column in the row of a word
abbrev word_entry : Chain → ℕ → ℕ → ℤ
word_entry c j w = pos (length (word c w)) *ℤ (if eqb j (first c w) then pos 1 else pos 0)

word_row : (c : Chain) (i j w : ℕ) → length_row c (length (pairs c) + w) *ℤ step_column c (length (pairs c) + w) i j ≡ word_entry c j w
word_row c i j w =
    let k : ℕ = length (pairs c) + w in
    let e : word_at c k ≡ w = omega arith in
    ap (λ (b : Bool). (if b then pos (place_in_word c (pair_at c k).0) -ℤ pos (place_in_word c (pair_at c k).1) else pos (length (word c (word_at c k))))
    *ℤ (if b then pair_part c (pair_at c k).0 (pair_at c k).1 i j else ends_at (λ x. eqb x (first c (word_at c k))) i j))
    (le-ltb k (length (pairs c)) (omega arith))
    ∙ ap (word_entry c j) e

empty_word : (c : Chain) (j w : ℕ) → w ≢ word_of c j → j ≡ first c w → length (word c w) ≡ 0
empty_word c j w other same =
    elim (cases_lt 0 (length (word c w))) [
      | inl some ↦ absurd (other (sym (ap (word_of c) (same ∙ omega arith) ∙ word_of_place c w 0 some)))
      | inr none ↦ omega arith
    ]

other_word : (c : Chain) (j w : ℕ) → w ≢ word_of c j → word_entry c j w ≡ pos 0
other_word c j w other =
    elim (cases_eq j (first c w)) [
      | inl same ↦ ap (λ (m : ℕ). pos m *ℤ (if eqb j (first c w) then pos 1 else pos 0)) (empty_word c j w other same) ∙ zero-mul (if eqb j (first c w) then pos 1 else pos 0)
      | inr apart ↦ ap (λ (x : ℤ). pos (length (word c w)) *ℤ x) (cond-false (eqb j (first c w)) (pos 1) (pos 0) (ne_eqb j (first c w) apart)) ∙ mul-zero (pos (length (word c w)))
    ]

-- a whole word, or nothing
whole : (l m o : ℕ) → m ≡ l → o ≡ 0 → pos l ≡ pos m -ℤ pos o
whole l m o e h = omega (arith, ints)

nothing : (m o : ℕ) → m ≡ o → pos 0 ≡ pos m -ℤ pos o
nothing m o e = omega (arith, ints)

own_word : (c : Chain) (j v : ℕ) → v ≡ word_of c j → word_entry c j v ≡ pos (place_in_word c j) -ℤ pos (offset c j)
own_word c j v here =
    let place_is : place_in_word c j ≡ cond (eqb j (first c v)) (length (word c v)) (j - first c v) =
    ap (λ (w : ℕ). cond (eqb j (first c w)) (length (word c w)) (j - first c w)) (sym here) in
    let offset_is : offset c j ≡ j - first c v = ap (λ (w : ℕ). j - first c w) (sym here) in
    elim (cases_eq j (first c v)) [
      | inl same ↦
          let test = eq-eqb j (first c v) same in
          ap (λ (x : ℤ). pos (length (word c v)) *ℤ x) (cond-true (eqb j (first c v)) (pos 1) (pos 0) test)
          ∙ mul-one (pos (length (word c v)))
          ∙ whole (length (word c v)) (place_in_word c j) (offset c j) (place_is ∙ cond-true (eqb j (first c v)) _ _ test) (offset_is ∙ omega arith)
      | inr apart ↦
          let test = ne_eqb j (first c v) apart in
          ap (λ (x : ℤ). pos (length (word c v)) *ℤ x) (cond-false (eqb j (first c v)) (pos 1) (pos 0) test)
          ∙ mul-zero (pos (length (word c v)))
          ∙ nothing (place_in_word c j) (offset c j) (place_is ∙ cond-false (eqb j (first c v)) _ _ test ∙ sym offset_is)
    ]

-- the step's sum over the rows of words
word_rows : (c : Chain) (i j : ℕ) → IsStep c i j → sum_below (λ w. length_row c (length (pairs c) + w) *ℤ step_column c (length (pairs c) + w) i j) (length c) ≡ pos (place_in_word c j) -ℤ pos (offset c j)
word_rows c i j step =
    let v : ℕ = word_of c j in
    sum-congr _ (word_entry c j) (length c) (λ w _. word_row c i j w)
    ∙ sum-single (word_entry c j) (length c) v (place c j step.to).in_chain (λ w _ other. other_word c j w other)
    ∙ own_word c j v refl

place_at : (c : Chain) (w m : ℕ) → m < length (word c w) → place_in_word c (first c w + m) ≡ cond (eqb (first c w + m) (first c w)) (length (word c w)) ((first c w + m) - first c w)
place_at c w m inside = ap (λ (v : ℕ). cond (eqb (first c w + m) (first c v)) (length (word c v)) ((first c w + m) - first c v)) (word_of_place c w m inside)

next_place_at : (c : Chain) (w k : ℕ) → k < length (word c w) → place_in_word c (succ c (first c w + k)) ≡ suc k
next_place_at c w k inside =
    elim (cases_lt (suc k) (length (word c w))) [
      | inl within ↦
          ap (place_in_word c) (succ_within c w k within)
          ∙ place_at c w (suc k) within
          ∙ cond-false (eqb (first c w + suc k) (first c w)) (length (word c w)) _ (ne_eqb (first c w + suc k) (first c w) (λ e. omega (arith, e)))
          ∙ omega arith
      | inr over ↦
          let last : suc k ≡ length (word c w) = omega arith in
          let start : first c w ≡ first c w + 0 = omega arith in
          ap (place_in_word c) (succ_last c w k last ∙ start)
          ∙ place_at c w 0 (omega arith)
          ∙ cond-true (eqb (first c w + 0) (first c w)) (length (word c w)) _ (eq-eqb (first c w + 0) (first c w) (omega arith))
          ∙ sym last
    ]

offset_at : (c : Chain) (w k : ℕ) → k < length (word c w) → offset c (first c w + k) ≡ k
offset_at c w k inside = ap (λ (v : ℕ). (first c w + k) - first c v) (word_of_place c w k inside) ∙ omega arith

place_of_next : (c : Chain) (i : ℕ) → i < positions c → place_in_word c (succ c i) ≡ suc (offset c i)
place_of_next c i inside =
    let a : At c i = at c i inside in
    ap (λ (x : ℕ). place_in_word c (succ c x)) a.here ∙ next_place_at c a.w a.k a.in_word ∙ ap suc (sym (ap (offset c) a.here ∙ offset_at c a.w a.k a.in_word))

joined : (a b o : ℤ) → (a -ℤ b) +ℤ (b -ℤ o) ≡ a -ℤ o
joined a b o = omega (arith, ints)

step_climbs : (c : Chain) (i j : ℕ) → IsStep c i j → sum_below (λ k. length_row c k *ℤ step_column c k i j) (rows c) ≡ climb (offset c) i j
step_climbs c i j step =
    sum-append (λ k. length_row c k *ℤ step_column c k i j) (length (pairs c)) (length c)
    ∙ ap (λ (x : ℤ). x +ℤ sum_below (λ w. length_row c (length (pairs c) + w) *ℤ step_column c (length (pairs c) + w) i j) (length c)) (pair_rows c i j step)
    ∙ ap (λ (x : ℤ). (pos (place_in_word c (succ c i)) -ℤ pos (place_in_word c j)) +ℤ x) (word_rows c i j step)
    ∙ joined (pos (place_in_word c (succ c i))) (pos (place_in_word c j)) (pos (offset c j))
    ∙ ap (λ (m : ℕ). pos m -ℤ pos (offset c j)) (place_of_next c i step.from)

-- the product of the length row with a closed walk's column is the walk's number of steps
pub length_product : (c : Chain) (walk : List ℕ) → IsClosedWalk c walk → sum_below (λ k. length_row c k *ℤ column c walk k) (rows c) ≡ pos (length walk)
length_product c walk closed =
    sum-congr _ _ (rows c) (λ k _. ap (λ (x : ℤ). length_row c k *ℤ x) (column_is c walk k) ∙ sym (walk_total-mul (length_row c k) (step_column c k) walk))
    ∙ walk_total-sum (λ k i j. length_row c k *ℤ step_column c k i j) (rows c) walk
    ∙ walk_total-congr c _ (climb (offset c)) (step_climbs c) walk closed
    ∙ walk_total-climb (offset c) walk
