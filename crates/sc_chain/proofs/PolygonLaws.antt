-- The tests of steps, closed walks and polygons tell these; and what a polygon keeps.
use Rattle.std.proofs.Common.{◌≡◌, ◌≢◌, ℕ, zero, suc, ◌<◌, ◌≤◌, Bool, true, not, ◌&&◌, eqb, ltb, List, [], ◌∷◌, length, get_or, ◌↔◌, IsTrue, inl, inr, arith, refl, sym, ap, ◌∙◌}
use Rattle.std.specs.Bool.{OnTrue}
use Rattle.std.specs.List.{AllByRecursion, list_all}
use Rattle.std.proofs.lemmas.Bool.{cases_lt, and_parts, and_from, not-true, eqb-false, ne_eqb, ltb-true, lt-ltb, false≢true, OnTrue_from, OnTrue_at}
use Rattle.sc_algebra.proofs.Cycles.{pigeonhole}
use Rattle.sc_theory.specs.Words.{is_inverse}
use Rattle.sc_theory.specs.Chains.{Chain, positions, letter, succ}
use Rattle.sc_theory.specs.Walks.{IsStep, WalksBack, IsClosedWalk, IsFromLeast, HasNoRepeat, IsPolygon}
use Rattle.sc_theory.proofs.WordLaws.{letter_from_is_inverse, is_inverse-inverse_letter}
use Rattle.sc_chain.specs.declared.limits.TheConstants.{MAX_POSITIONS}
use Rattle.sc_chain.specs.Polygons.{is_step, walks_back, is_closed_walk, is_from_least, has_no_repeat, is_polygon, IsSmallWalk}

-- ---- steps and closed walks

step_from : (c : Chain) (i j : ℕ) → is_step c i j ≡ true → IsStep c i j
step_from c i j h =
    let all = and_parts (ltb i (positions c) && ltb j (positions c)) (is_inverse (letter c (succ c i)) (letter c j)) h in
    let places = and_parts (ltb i (positions c)) (ltb j (positions c)) all.0 in
    record {
      from = ltb-true i (positions c) places.0;
      to = ltb-true j (positions c) places.1;
      inverse = letter_from_is_inverse (letter c (succ c i)) (letter c j) all.1;
    }

step_test : (c : Chain) (i j : ℕ) → IsStep c i j → is_step c i j ≡ true
step_test c i j s =
    and_from (ltb i (positions c) && ltb j (positions c)) (is_inverse (letter c (succ c i)) (letter c j))
    (and_from (ltb i (positions c)) (ltb j (positions c)) (lt-ltb i (positions c) s.from) (lt-ltb j (positions c) s.to))
    (ap (is_inverse (letter c (succ c i))) s.inverse ∙ is_inverse-inverse_letter (letter c (succ c i)))

-- exactly the steps pass the test
pub steps_are_decided : (c : Chain) (i j : ℕ) → IsTrue (is_step c i j) ↔ IsStep c i j
steps_are_decided c i j = (step_from c i j, step_test c i j)

back_from : (c : Chain) (start i : ℕ) (js : List ℕ) → walks_back c start i js ≡ true → WalksBack c start i js
back_from c start i [] h = step_from c i start h
back_from c start i (j ∷ js) h = let both = and_parts (is_step c i j) (walks_back c start j js) h in (step_from c i j both.0, back_from c start j js both.1)

back_test : (c : Chain) (start i : ℕ) (js : List ℕ) → WalksBack c start i js → walks_back c start i js ≡ true
back_test c start i [] w = step_test c i start w
back_test c start i (j ∷ js) w = and_from (is_step c i j) (walks_back c start j js) (step_test c i j w.0) (back_test c start j js w.1)

closed_from : (c : Chain) (walk : List ℕ) → is_closed_walk c walk ≡ true → IsClosedWalk c walk
closed_from c [] h = absurd (false≢true h)
closed_from c (i ∷ js) h = back_from c i i js h

closed_test : (c : Chain) (walk : List ℕ) → IsClosedWalk c walk → is_closed_walk c walk ≡ true
closed_test c [] w = absurd w
closed_test c (i ∷ js) w = back_test c i i js w

-- exactly the closed walks pass the test
pub walks_are_decided : (c : Chain) (walk : List ℕ) → IsTrue (is_closed_walk c walk) ↔ IsClosedWalk c walk
walks_are_decided c walk = (closed_from c walk, closed_test c walk)

-- ---- the least position first, and no repeat

all_from : (P : ℕ → Type 0) (test : ℕ → Bool) (js : List ℕ) → ((j : ℕ) → test j ≡ true → P j) → list_all test js ≡ true → AllByRecursion P js
all_from P test [] f h = tt
all_from P test (j ∷ js) f h = let both = and_parts (test j) (list_all test js) h in (f j both.0, all_from P test js f both.1)

all_test : (P : ℕ → Type 0) (test : ℕ → Bool) (js : List ℕ) → ((j : ℕ) → P j → test j ≡ true) → AllByRecursion P js → list_all test js ≡ true
all_test P test [] f h = refl
all_test P test (j ∷ js) f h = and_from (test j) (list_all test js) (f j h.0) (all_test P test js f h.1)

least_from : (walk : List ℕ) → is_from_least walk ≡ true → IsFromLeast walk
least_from [] h = absurd (false≢true h)
least_from (i ∷ js) h = all_from (λ j. i < j) (λ j. ltb i j) js (ltb-true i) h

least_test : (walk : List ℕ) → IsFromLeast walk → is_from_least walk ≡ true
least_test [] h = absurd h
least_test (i ∷ js) h = all_test (λ j. i < j) (λ j. ltb i j) js (lt-ltb i) h

-- exactly the walks without a repeat pass the test
pub simple_from : (walk : List ℕ) → has_no_repeat walk ≡ true → HasNoRepeat walk
simple_from [] h = tt
simple_from (i ∷ js) h =
    let both = and_parts (list_all (λ j. not (eqb i j)) js) (has_no_repeat js) h in
    (all_from (λ j. i ≢ j) (λ j. not (eqb i j)) js (λ j e. eqb-false i j (not-true (eqb i j) e)) both.0, simple_from js both.1)

pub simple_test : (walk : List ℕ) → HasNoRepeat walk → has_no_repeat walk ≡ true
simple_test [] h = refl
simple_test (i ∷ js) h =
    and_from (list_all (λ j. not (eqb i j)) js) (has_no_repeat js)
    (all_test (λ j. i ≢ j) (λ j. not (eqb i j)) js (λ j ne. ap not (ne_eqb i j ne)) h.0) (simple_test js h.1)

polygon_from : (c : Chain) (walk : List ℕ) → is_polygon c walk ≡ true → IsPolygon c walk
polygon_from c walk h =
    let all = and_parts (is_closed_walk c walk && is_from_least walk) (has_no_repeat walk) h in
    let both = and_parts (is_closed_walk c walk) (is_from_least walk) all.0 in
    record { closed = closed_from c walk both.0; least = least_from walk both.1; simple = simple_from walk all.1 }

polygon_test : (c : Chain) (walk : List ℕ) → IsPolygon c walk → is_polygon c walk ≡ true
polygon_test c walk p =
    and_from (is_closed_walk c walk && is_from_least walk) (has_no_repeat walk)
    (and_from (is_closed_walk c walk) (is_from_least walk) (closed_test c walk p.closed) (least_test walk p.least)) (simple_test walk p.simple)

-- exactly the polygons pass the test
pub polygons_are_decided : (c : Chain) (walk : List ℕ) → IsTrue (is_polygon c walk) ↔ IsPolygon c walk
polygons_are_decided c walk = (polygon_from c walk, polygon_test c walk)

-- ---- the positions of a closed walk are few and in range

back_inside : (c : Chain) (start i : ℕ) (js : List ℕ) → WalksBack c start i js → (k : ℕ) → k < suc (length js) → get_or (i ∷ js) k 0 < positions c
back_inside c start i [] w zero h = w.from
back_inside c start i [] w (suc k) h = absurd (omega arith)
back_inside c start i (j ∷ js) w zero h = w.0.from
back_inside c start i (j ∷ js) w (suc k) h = back_inside c start j js w.1 k (omega arith)

-- each number of a closed walk is a position of the chain
pub walk_inside : (c : Chain) (walk : List ℕ) → IsClosedWalk c walk → (k : ℕ) → k < length walk → get_or walk k 0 < positions c
walk_inside c [] w k h = absurd w
walk_inside c (i ∷ js) w k h = back_inside c i i js w k h

every : (P : ℕ → Type 0) (xs : List ℕ) (k : ℕ) → AllByRecursion P xs → k < length xs → P (get_or xs k 0)
every P [] k all h = absurd (omega arith)
every P (x ∷ xs) zero all h = all.0
every P (x ∷ xs) (suc k) all h = every P xs k all.1 (omega arith)

-- the positions at any two places differ exactly where the walk has no repeat
pub apart : (walk : List ℕ) (i j : ℕ) → HasNoRepeat walk → i < j → j < length walk → get_or walk i 0 ≢ get_or walk j 0
apart [] i j simple less inside = absurd (omega arith)
apart (x ∷ xs) i zero simple less inside = absurd (omega arith)
apart (x ∷ xs) zero (suc j) simple less inside = every (λ y. x ≢ y) xs j simple.0 (omega arith)
apart (x ∷ xs) (suc i) (suc j) simple less inside = apart xs i j simple.1 (omega arith) (omega arith)

all_at : (P : ℕ → Type 0) (xs : List ℕ) → ((k : ℕ) → k < length xs → P (get_or xs k 0)) → AllByRecursion P xs
all_at P [] f = tt
all_at P (x ∷ xs) f = (f 0 (omega arith), all_at P xs (λ k h. f (suc k) (omega arith)))

pub no_repeat_from : (walk : List ℕ) → ((i j : ℕ) → i < j → j < length walk → get_or walk i 0 ≢ get_or walk j 0) → HasNoRepeat walk
no_repeat_from [] f = tt
no_repeat_from (x ∷ xs) f =
    (all_at (λ y. x ≢ y) xs (λ k h. f 0 (suc k) (omega arith) (omega arith)), no_repeat_from xs (λ i j less inside. f (suc i) (suc j) (omega arith) (omega arith)))

two_alike : (walk : List ℕ) (n : ℕ) → HasNoRepeat walk → (i : ℕ) × (j : ℕ) × (i < j) × (j < suc n) × (get_or walk i 0 ≡ get_or walk j 0) → n < length walk → ⊥
two_alike walk n simple (i, j, less, inside, e) many = apart walk i j simple less (omega arith) e

few_without_repeat : (walk : List ℕ) (n : ℕ) → HasNoRepeat walk → ((k : ℕ) → k < length walk → get_or walk k 0 < n) → length walk ≤ n
few_without_repeat walk n simple below = elim (cases_lt n (length walk)) [
  | inl many ↦ absurd (two_alike walk n simple (pigeonhole n (λ (i : ℕ). get_or walk i 0) (λ i h. below i (omega arith))) many)
  | inr few ↦ few
]

-- what every polygon keeps, where its positions are below the limit
pub small_walk : (c : Chain) (walk : List ℕ) → ((k : ℕ) → k < length walk → get_or walk k 0 < MAX_POSITIONS) → IsPolygon c walk → IsSmallWalk walk
small_walk c walk below p =
    record { least = p.least; simple = p.simple; few = few_without_repeat walk MAX_POSITIONS p.simple below; in_range = below }

-- where the test of a closed walk passes, its positions are below the limit
pub closed_inside : (c : Chain) (walk : List ℕ) (b : Bool) → positions c ≤ MAX_POSITIONS → b ≡ is_closed_walk c walk →
    OnTrue b ((k : ℕ) → k < length walk → get_or walk k 0 < MAX_POSITIONS)
closed_inside c walk b few e =
    OnTrue_from b ((k : ℕ) → k < length walk → get_or walk k 0 < MAX_POSITIONS) (λ h k inside. omega (arith, walk_inside c walk (closed_from c walk (sym e ∙ h)) k inside))

-- what an answer of the test says
pub polygon_if : (c : Chain) (walk : List ℕ) (b : Bool) → b ≡ is_polygon c walk → (b ≡ true) ↔ IsPolygon c walk
polygon_if c walk b e = ((λ h. polygon_from c walk (sym e ∙ h)), (λ p. e ∙ polygon_test c walk p))

-- where the test of a polygon passes for a closed walk, the walk keeps what every polygon keeps
pub small_if : (c : Chain) (walk : List ℕ) (b closed : Bool) → closed ≡ true → OnTrue closed ((k : ℕ) → k < length walk → get_or walk k 0 < MAX_POSITIONS) → b ≡ is_polygon c walk →
    OnTrue b (IsSmallWalk walk)
small_if c walk b closed h below e =
    OnTrue_from b (IsSmallWalk walk) (λ t. small_walk c walk (OnTrue_at h below) (polygon_from c walk (sym e ∙ t)))
