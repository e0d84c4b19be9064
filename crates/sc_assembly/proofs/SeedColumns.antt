-- For each balanced chain some polygons have columns that come to the right side: those that the turns round the
-- vertices of its seed surface split into.
use Rattle.std.proofs.Common.{◌≡◌, ℕ, ◌<◌, ◌≤◌, Bool, true, false, ◌&&◌, eqb, if◌then◌else◌, List, [], ◌∷◌, map, length, ℤ, pos, ◌+ℤ◌, ◌-ℤ◌, neg_ℤ, inl, inr, arith, refl, sym, ap, ap₂, subst, ◌∙◌}
use Rattle.std.specs.List.{AllByRecursion}
use Rattle.std.proofs.lemmas.Int.{ints}
use Rattle.std.proofs.lemmas.Bool.{cases_eq, cases_lt, eq-eqb, ne_eqb, lt-ltb, le-ltb}
use Rattle.sc_algebra.specs.Sums.{sum_below}
use Rattle.sc_algebra.specs.Permutations.{IsPermutation}
use Rattle.sc_algebra.proofs.Ints.{one-mul}
use Rattle.sc_algebra.proofs.Sums.{sum-congr, count-sum}
use Rattle.sc_algebra.proofs.Permutations.{reindex, compose, involution, antisymmetric-cancel}
use Rattle.sc_theory.specs.Words.{inverse_letter}
use Rattle.sc_theory.specs.Chains.{Chain, IsChain, IsBalanced, positions, weight, first, letter, succ, prev}
use Rattle.sc_theory.specs.Walks.{IsStep, WalksBack, IsClosedWalk, IsPolygon, total_back, walk_total, walks_total}
use Rattle.sc_theory.specs.Prices.{pairs}
use Rattle.sc_theory.specs.Columns.{rows, pair_at, word_at, right_side}
use Rattle.sc_theory.proofs.ChainLaws.{neighbours}
use Rattle.sc_theory.proofs.WalkTotals.{ends_at}
use Rattle.sc_theory.proofs.ColumnLaws.{at_step, pair_part, step_column}
use Rattle.sc_chain.proofs.PairLaws.{IsInversePair, inverse_at}
use Rattle.sc_gluing.specs.Cycles.{Parts, copies_of, at, after}
use Rattle.sc_gluing.specs.Gluing.{AreBalanced}
use Rattle.sc_gluing.specs.Seeds.{word_cycles}
use Rattle.sc_gluing.proofs.CycleLaws.{size, after_inside, after_permutes}
use Rattle.sc_gluing.proofs.StepCounts.{parts_column_is}
use Rattle.sc_gluing.proofs.SeedSides.{HasMates, mates, mates_return, word_sides}
use Rattle.sc_gluing.proofs.SeedLaws.{sides_of_first}
use Rattle.sc_assembly.proofs.Cycling.{GoesBack, IsCycle, Cycles, cycles}
use Rattle.sc_assembly.proofs.Splitting.{SplitAll, split_all}

-- ---- walks of numbers with labels
total_labels : (l : ℕ → ℕ) (f : ℕ → ℕ → ℤ) (start i : ℕ) (js : List ℕ) → total_back f (l start) (l i) (map l js) ≡ total_back (λ a b. f (l a) (l b)) start i js
total_labels l f start i [] = refl
total_labels l f start i (j ∷ js) = ap (λ (x : ℤ). f (l i) (l j) +ℤ x) (total_labels l f start j js)

walk_labels : (l : ℕ → ℕ) (f : ℕ → ℕ → ℤ) (walk : List ℕ) → walk_total f (map l walk) ≡ walk_total (λ a b. f (l a) (l b)) walk
walk_labels l f [] = refl
walk_labels l f (i ∷ js) = total_labels l f i i js

walks_labels : (l : ℕ → ℕ) (f : ℕ → ℕ → ℤ) (walks : List (List ℕ)) → walks_total f (map (map l) walks) ≡ walks_total (λ a b. f (l a) (l b)) walks
walks_labels l f [] = refl
walks_labels l f (w ∷ ws) = ap₂ (λ (x y : ℤ). x +ℤ y) (walk_labels l f w) (walks_labels l f ws)

module _ (c : Chain) (l t : ℕ → ℕ) (n : ℕ) (step : (s : ℕ) → s < n → IsStep c (l s) (l (t s))) where
  labels_back : (start i : ℕ) (js : List ℕ) → GoesBack t n start i js → WalksBack c (l start) (l i) (map l js)
  labels_back start i [] (below, e) = subst (λ (j : ℕ). IsStep c (l i) (l j)) e (step i below)
  labels_back start i (j ∷ js) (below, e, rest) = (subst (λ (k : ℕ). IsStep c (l i) (l k)) e (step i below), labels_back start j js rest)

  labels_closed : (walk : List ℕ) → IsCycle t n walk → IsClosedWalk c (map l walk)
  labels_closed [] is = is
  labels_closed (i ∷ js) is = labels_back i i js is

  all_closed : (walks : List (List ℕ)) → AllByRecursion (IsCycle t n) walks → AllByRecursion (IsClosedWalk c) (map (map l) walks)
  all_closed [] all = tt
  all_closed (w ∷ ws) all = (labels_closed w all.0, all_closed ws all.1)

-- ---- the turns of the seed surface
module _ (c : Chain) (all : HasMates c) where
  abbrev place : ℕ → ℕ
  place s = at (word_cycles c) s

  abbrev later : ℕ → ℕ
  later s = after (word_cycles c) s

  abbrev turn : ℕ → ℕ
  turn s = all.mate_of (later s)

  abbrev many : ℕ
  many = size (word_cycles c)

  mate_inside : (s : ℕ) → s < many → all.mate_of s < many
  mate_inside s h = (all.are s h).inside

  turn_permutes : IsPermutation turn many
  turn_permutes = compose (involution all.mate_of many mate_inside (mates_return c all)) (after_permutes (word_cycles c))

  turn_steps : (s : ℕ) → s < many → IsStep c (place s) (place (turn s))
  turn_steps s h =
      let further : later s < many = after_inside (word_cycles c) s h in
      record {
        from = (word_sides c s h).inside;
        to = (word_sides c (turn s) (mate_inside (later s) further)).inside;
        inverse = (all.are (later s) further).inverse ∙ ap (λ (i : ℕ). inverse_letter (letter c i)) (word_sides c s h).next;
      }

  seed_polygons : SplitAll c (map (map place) (cycles many turn turn_permutes).walks)
  seed_polygons =
      let round : Cycles turn many = cycles many turn turn_permutes in
      split_all c (map (map place) round.walks) (all_closed c place turn many turn_steps round.walks round.round)

  steps_total : (f : ℕ → ℕ → ℤ) → walks_total f seed_polygons.polygons ≡ sum_below (λ s. f (place s) (place (turn s))) many
  steps_total f =
      let round : Cycles turn many = cycles many turn turn_permutes in
      seed_polygons.steps f ∙ walks_labels place f round.walks ∙ round.total (λ a b. f (place a) (place b))

  -- ---- in the row of a pair
  same_before : (s p : ℕ) → s < many → p < positions c → eqb (place s) (prev c p) ≡ eqb (place (later s)) p
  same_before s p h inside =
      let next : place (later s) ≡ succ c (place s) = (word_sides c s h).next in
      elim (cases_eq (place (later s)) p) [
        | inl same ↦ eq-eqb (place s) (prev c p) (sym (neighbours c (place s) (word_sides c s h).inside).prev-succ ∙ ap (prev c) (sym next ∙ same)) ∙ sym (eq-eqb (place (later s)) p same)
        | inr other ↦ ne_eqb (place s) (prev c p) (λ e. other (next ∙ ap (succ c) e ∙ (neighbours c p inside).succ-prev)) ∙ sym (ne_eqb (place (later s)) p other)
      ]

  -- 1 where the side has one position and its mate the other
  abbrev across : ℕ → ℕ → ℕ → ℤ
  across p q x = if eqb (place x) p && eqb (place (all.mate_of x)) q then pos 1 else pos 0

  abbrev both : ℕ → ℕ → ℕ → ℤ
  both p q x = across p q x -ℤ across q p x

  step_across : (p q s : ℕ) → s < many → p < positions c → at_step (prev c p) q (place s) (place (turn s)) ≡ across p q (later s)
  step_across p q s h inside = ap (λ (b : Bool). if b && eqb (place (turn s)) q then pos 1 else pos 0) (same_before s p h inside)

  and_turned : (a b : Bool) → (a && b) ≡ (b && a)
  and_turned true true = refl
  and_turned true false = refl
  and_turned false true = refl
  and_turned false false = refl

  turned_difference : (a b x y : ℤ) → a ≡ y → b ≡ x → a -ℤ b ≡ neg_ℤ (x -ℤ y)
  turned_difference a b x y e h = omega (arith, ints)

  across_mate : (p q x : ℕ) → x < many → across p q (all.mate_of x) ≡ across q p x
  across_mate p q x h =
      ap (λ (y : ℕ). if eqb (place (all.mate_of x)) p && eqb (place y) q then pos 1 else pos 0) (mates_return c all x h)
      ∙ ap (λ (b : Bool). if b then pos 1 else pos 0) (and_turned (eqb (place (all.mate_of x)) p) (eqb (place x) q))

  both_mate : (p q x : ℕ) → x < many → both p q (all.mate_of x) ≡ neg_ℤ (both p q x)
  both_mate p q x h = turned_difference _ _ (across p q x) (across q p x) (across_mate p q x h) (across_mate q p x h)

  pair_sum : (p q : ℕ) → p < positions c → q < positions c → sum_below (λ s. pair_part c p q (place s) (place (turn s))) many ≡ pos 0
  pair_sum p q in_p in_q =
      sum-congr _ (λ s. both p q (later s)) many (λ s h. ap₂ (λ (x y : ℤ). x -ℤ y) (step_across p q s h in_p) (step_across q p s h in_q))
      ∙ reindex later many (both p q) (after_permutes (word_cycles c))
      ∙ antisymmetric-cancel all.mate_of many (both p q) mate_inside (mates_return c all) (both_mate p q)

  -- what a step adds to a row, and the right side there
  abbrev in_row : ℕ → Bool → ℕ → ℕ → ℤ
  in_row k b i j = if b then pair_part c (pair_at c k).0 (pair_at c k).1 i j else ends_at (λ x. eqb x (first c (word_at c k))) i j

  abbrev side_in_row : ℕ → Bool → ℤ
  side_in_row k b = if b then pos 0 else pos (weight c (word_at c k))

  row_of_pair : (k : ℕ) → k < length (pairs c) → sum_below (λ s. step_column c k (place s) (place (turn s))) many ≡ right_side c k
  row_of_pair k inside =
      let found : IsInversePair c (pair_at c k).0 (pair_at c k).1 = inverse_at c k inside in
      sum-congr _ _ many (λ s _. ap (λ (b : Bool). in_row k b (place s) (place (turn s))) (lt-ltb k (length (pairs c)) inside))
      ∙ pair_sum (pair_at c k).0 (pair_at c k).1 (omega (arith, found.ordered, found.in_range)) found.in_range
      ∙ sym (ap (side_in_row k) (lt-ltb k (length (pairs c)) inside))

  row_of_word : IsChain c → (k : ℕ) → length (pairs c) ≤ k → k < rows c → sum_below (λ s. step_column c k (place s) (place (turn s))) many ≡ right_side c k
  row_of_word chain k above inside =
      let w : ℕ = word_at c k in
      let ends : ℕ → ℤ = λ s. if eqb (place s) (first c w) then pos 1 else pos 0 in
      sum-congr _ (λ s. ends (turn s)) many (λ s _. ap (λ (b : Bool). in_row k b (place s) (place (turn s))) (le-ltb k (length (pairs c)) above))
      ∙ reindex turn many ends turn_permutes
      ∙ sym (count-sum (λ s. eqb (place s) (first c w)) many)
      ∙ ap pos (sides_of_first c chain w (omega arith))
      ∙ sym (ap (side_in_row k) (le-ltb k (length (pairs c)) above))

  row_sum : IsChain c → (k : ℕ) → k < rows c → sum_below (λ s. step_column c k (place s) (place (turn s))) many ≡ right_side c k
  row_sum chain k inside = elim (cases_lt k (length (pairs c))) [
    | inl pair ↦ row_of_pair k pair
    | inr word ↦ row_of_word chain k word inside
  ]

-- ---- polygons that stand once
once : List (List ℕ) → Parts
once polygons = map (λ w. (w, 1)) polygons

all_once : (c : Chain) (polygons : List (List ℕ)) → AllByRecursion (IsPolygon c) polygons → AllByRecursion (λ p. IsPolygon c p.0) (once polygons)
unfolding once
all_once c [] all = tt
all_once c (w ∷ ws) all = (all.0, all_once c ws all.1)

copies_once : (polygons : List (List ℕ)) → copies_of (once polygons) ≡ polygons
unfolding once
copies_once [] = refl
copies_once (w ∷ ws) = ap (λ (vs : List (List ℕ)). w ∷ vs) (copies_once ws)

-- over a balanced chain some polygons with counts balance for one copy
pub feasible : (c : Chain) → IsChain c → IsBalanced c → (parts : Parts) × AreBalanced c 1 parts
feasible c chain balanced =
    let all : HasMates c = mates c balanced in
    let found = seed_polygons c all in (
      once found.polygons,
      record {
        polygons = all_once c found.polygons found.valid;
        sums = λ k inside.
            parts_column_is c (once found.polygons) k
            ∙ ap (walks_total (step_column c k)) (copies_once found.polygons)
            ∙ steps_total c all (step_column c k)
            ∙ row_sum c all chain k inside
            ∙ sym (one-mul (right_side c k));
      },
    )
