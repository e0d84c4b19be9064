-- The cycles of a permutation as lists, with the total of every price over its steps.
use Rattle.std.proofs.Common.{◌≡◌, ◌≢◌, ℕ, zero, suc, ◌<◌, Bool, true, false, ◌==◌, if◌then◌else◌, List, [], ◌∷◌, map, ℤ, pos, ◌+ℤ◌, arith, inl, inr, refl, sym, ap, subst, ◌∙◌}
use Rattle.std.specs.List.{AllByRecursion}
use Rattle.std.proofs.lemmas.Int.{ints}
use Rattle.std.proofs.lemmas.Bool.{cases_eq, eq-eqb, ne_eqb, cond-true, cond-false}
use Rattle.sc_algebra.specs.Sums.{sum_below}
use Rattle.sc_algebra.specs.Permutations.{IsPermutation}
use Rattle.sc_algebra.proofs.Sums.{sum-congr, sum-add, sum-single}
use Rattle.sc_algebra.proofs.Permutations.{skip, skip_at, skip_off, IsPermutation-skip, onto}
use Rattle.sc_theory.specs.Walks.{total_back, walk_total, walks_total}

-- from i along js and back to the start, each number below n taken to the next one by t
abbrev pub GoesBack : (ℕ → ℕ) → ℕ → ℕ → ℕ → List ℕ → Type 0
GoesBack t n start i [] = (i < n) × (t i ≡ start)
GoesBack t n start i (j ∷ js) = (i < n) × (t i ≡ j) × GoesBack t n start j js

abbrev pub IsCycle : (ℕ → ℕ) → ℕ → List ℕ → Type 0
IsCycle t n [] = ⊥
IsCycle t n (i ∷ js) = GoesBack t n i i js

-- lists of numbers that t takes round, with the total of every price over its steps
pub record Cycles (t : ℕ → ℕ) (n : ℕ) : Type 0 where
  pub walks : List (List ℕ)
  pub round : AllByRecursion (IsCycle t n) walks
  pub total : (f : ℕ → ℕ → ℤ) → walks_total f walks ≡ sum_below (λ s. f s (t s)) n

-- ---- a number put in behind another one
-- m before the list, if i is the number that it is put behind
abbrev way : ℕ → ℕ → ℕ → List ℕ → List ℕ
way u m i ks = if i == u then m ∷ ks else ks

abbrev put_in : ℕ → ℕ → List ℕ → List ℕ
put_in u m [] = []
put_in u m (j ∷ js) = j ∷ way u m j (put_in u m js)

-- the price of a step that may go by way of m
abbrev by_way : ℕ → ℕ → (ℕ → ℕ → ℤ) → ℕ → ℕ → ℤ
by_way u m f i j = if i == u then f i m +ℤ f m j else f i j

last_total : (b : Bool) (f : ℕ → ℕ → ℤ) (m start i : ℕ) → total_back f start i (if b then m ∷ [] else []) ≡ (if b then f i m +ℤ f m start else f i start)
last_total true f m start i = refl
last_total false f m start i = refl

grouped : (a b x : ℤ) → a +ℤ (b +ℤ x) ≡ (a +ℤ b) +ℤ x
grouped a b x = omega (arith, ints)

step_total : (b : Bool) (f : ℕ → ℕ → ℤ) (m start i j : ℕ) (ks : List ℕ) → total_back f start i (if b then m ∷ (j ∷ ks) else j ∷ ks) ≡ (if b then f i m +ℤ f m j else f i j) +ℤ total_back f start j ks
step_total true f m start i j ks = grouped (f i m) (f m j) _
step_total false f m start i j ks = refl

put_total : (u m : ℕ) (f : ℕ → ℕ → ℤ) (start i : ℕ) (js : List ℕ) → total_back f start i (way u m i (put_in u m js)) ≡ total_back (by_way u m f) start i js
put_total u m f start i [] = last_total (i == u) f m start i
put_total u m f start i (j ∷ js) =
    step_total (i == u) f m start i j (way u m j (put_in u m js)) ∙ ap (λ (x : ℤ). by_way u m f i j +ℤ x) (put_total u m f start j js)

put_walk_total : (u m : ℕ) (f : ℕ → ℕ → ℤ) (walk : List ℕ) → walk_total f (put_in u m walk) ≡ walk_total (by_way u m f) walk
put_walk_total u m f [] = refl
put_walk_total u m f (i ∷ js) = put_total u m f i i js

put_walks_total : (u m : ℕ) (f : ℕ → ℕ → ℤ) (walks : List (List ℕ)) → walks_total f (map (put_in u m) walks) ≡ walks_total (by_way u m f) walks
put_walks_total u m f [] = refl
put_walks_total u m f (w ∷ ws) =
    ap (λ (x : ℤ). x +ℤ walks_total f (map (put_in u m) ws)) (put_walk_total u m f w) ∙ ap (λ (x : ℤ). walk_total (by_way u m f) w +ℤ x) (put_walks_total u m f ws)

way_at : (u m i : ℕ) (ks : List ℕ) → i ≡ u → way u m i ks ≡ m ∷ ks
way_at u m i ks e = cond-true (i == u) (m ∷ ks) ks (eq-eqb i u e)

way_off : (u m i : ℕ) (ks : List ℕ) → i ≢ u → way u m i ks ≡ ks
way_off u m i ks ne = cond-false (i == u) (m ∷ ks) ks (ne_eqb i u ne)

-- ---- m put in behind the number that t takes to it
module _ (m : ℕ) (t : ℕ → ℕ) (permutes : IsPermutation t (suc m)) (u : ℕ) (inside : u < m) (leads : t u ≡ m) where
  goes_there : (i j : ℕ) → i < m → skip m t i ≡ j → i ≢ u → t i ≡ j
  goes_there i j below e other = sym (skip_off m t i (λ same. other (permutes.apart i u (omega arith) (omega arith) (same ∙ sym leads)))) ∙ e

  goes_on : (i j : ℕ) → skip m t i ≡ j → i ≡ u → t m ≡ j
  goes_on i j e same = sym (skip_at m t i (ap t same ∙ leads)) ∙ e

  put_back : (start i : ℕ) (js : List ℕ) → GoesBack (skip m t) m start i js → GoesBack t (suc m) start i (way u m i (put_in u m js))
  put_back start i [] (below, e) =
      elim (cases_eq i u) [
        | inl same ↦ subst (GoesBack t (suc m) start i) (sym (way_at u m i [] same)) (omega arith, ap t same ∙ leads, (omega arith, goes_on i start e same))
        | inr other ↦ subst (GoesBack t (suc m) start i) (sym (way_off u m i [] other)) (omega arith, goes_there i start below e other)
      ]
  put_back start i (j ∷ js) (below, e, rest) =
      let ks : List ℕ = put_in u m (j ∷ js) in
      let back = put_back start j js rest in
      elim (cases_eq i u) [
        | inl same ↦ subst (GoesBack t (suc m) start i) (sym (way_at u m i ks same)) (omega arith, ap t same ∙ leads, (omega arith, goes_on i j e same, back))
        | inr other ↦ subst (GoesBack t (suc m) start i) (sym (way_off u m i ks other)) (omega arith, goes_there i j below e other, back)
      ]

  put_cycle : (walk : List ℕ) → IsCycle (skip m t) m walk → IsCycle t (suc m) (put_in u m walk)
  put_cycle [] is = is
  put_cycle (i ∷ js) is = put_back i i js is

  put_cycles : (walks : List (List ℕ)) → AllByRecursion (IsCycle (skip m t) m) walks → AllByRecursion (IsCycle t (suc m)) (map (put_in u m) walks)
  put_cycles [] all = tt
  put_cycles (w ∷ ws) all = (put_cycle w all.0, put_cycles ws all.1)

  -- what a step comes to by way of m: its own price, and at u the price of the step from m
  step_by_way : (f : ℕ → ℕ → ℤ) (s : ℕ) → s < m → by_way u m f s (skip m t s) ≡ f s (t s) +ℤ (if s == u then f m (t m) else pos 0)
  step_by_way f s below =
      elim (cases_eq s u) [
        | inl same ↦
            let e : t s ≡ m = ap t same ∙ leads in
            cond-true (s == u) _ (f s (skip m t s)) (eq-eqb s u same)
            ∙ ap (λ (j : ℕ). f s m +ℤ f m j) (skip_at m t s e)
            ∙ ap (λ (j : ℕ). f s j +ℤ f m (t m)) (sym e)
            ∙ ap (λ (x : ℤ). f s (t s) +ℤ x) (sym (cond-true (s == u) (f m (t m)) (pos 0) (eq-eqb s u same)))
        | inr other ↦
            cond-false (s == u) _ (f s (skip m t s)) (ne_eqb s u other)
            ∙ ap (f s) (sym (goes_there s (skip m t s) below refl other))
            ∙ nothing_more (f s (t s))
            ∙ ap (λ (x : ℤ). f s (t s) +ℤ x) (sym (cond-false (s == u) (f m (t m)) (pos 0) (ne_eqb s u other)))
      ]
    where
      nothing_more : (a : ℤ) → a ≡ a +ℤ pos 0
      nothing_more a = omega (arith, ints)

  sum_by_way : (f : ℕ → ℕ → ℤ) → sum_below (λ s. by_way u m f s (skip m t s)) m ≡ sum_below (λ s. f s (t s)) (suc m)
  sum_by_way f =
      sum-congr _ _ m (step_by_way f)
      ∙ sum-add (λ s. f s (t s)) (λ s. if s == u then f m (t m) else pos 0) m
      ∙ ap (λ (x : ℤ). sum_below (λ s. f s (t s)) m +ℤ x)
      (sum-single (λ s. if s == u then f m (t m) else pos 0) m u inside (λ s _ other. cond-false (s == u) (f m (t m)) (pos 0) (ne_eqb s u other))
      ∙ cond-true (u == u) (f m (t m)) (pos 0) (eq-eqb u u refl))

  with_last : Cycles (skip m t) m → Cycles t (suc m)
  with_last rest = record {
    walks = map (put_in u m) rest.walks;
    round = put_cycles rest.walks rest.round;
    total = λ f. put_walks_total u m f rest.walks ∙ rest.total (by_way u m f) ∙ sum_by_way f;
  }

-- ---- m alone
module _ (m : ℕ) (t : ℕ → ℕ) (permutes : IsPermutation t (suc m)) (alone : t m ≡ m) where
  stays : (s : ℕ) → s < m → skip m t s ≡ t s
  stays s below = skip_off m t s (λ e. omega (arith, permutes.apart s m (omega arith) (omega arith) (e ∙ sym alone)))

  same_back : (start i : ℕ) (js : List ℕ) → GoesBack (skip m t) m start i js → GoesBack t (suc m) start i js
  same_back start i [] (below, e) = (omega arith, sym (stays i below) ∙ e)
  same_back start i (j ∷ js) (below, e, rest) = (omega arith, sym (stays i below) ∙ e, same_back start j js rest)

  same_cycles : (walks : List (List ℕ)) → AllByRecursion (IsCycle (skip m t) m) walks → AllByRecursion (IsCycle t (suc m)) walks
  same_cycles [] all = tt
  same_cycles ([] ∷ ws) all = absurd all.0
  same_cycles ((i ∷ js) ∷ ws) all = (same_back i i js all.0, same_cycles ws all.1)

  swapped : (a b : ℤ) → a +ℤ b ≡ b +ℤ a
  swapped a b = omega (arith, ints)

  with_alone : Cycles (skip m t) m → Cycles t (suc m)
  with_alone rest = record {
    walks = (m ∷ []) ∷ rest.walks;
    round = ((omega arith, alone), same_cycles rest.walks rest.round);
    total = λ f.
        ap (λ (x : ℤ). f m m +ℤ x) (rest.total f ∙ sum-congr _ _ m (λ s below. ap (f s) (stays s below)))
        ∙ ap (λ (j : ℕ). f m j +ℤ sum_below (λ s. f s (t s)) m) (sym alone)
        ∙ swapped (f m (t m)) (sum_below (λ s. f s (t s)) m);
  }

-- every permutation has its cycles
pub cycles : (n : ℕ) (t : ℕ → ℕ) → IsPermutation t n → Cycles t n
cycles zero t permutes = record { walks = []; round = tt; total = λ f. refl }
cycles (suc m) t permutes =
    let rest = cycles m (skip m t) (IsPermutation-skip m t permutes) in
    elim (cases_eq (t m) m) [
      | inl alone ↦ with_alone m t permutes alone rest
      | inr other ↦ behind (onto permutes m (omega arith)) other rest
    ]
  where
    behind : (s : ℕ) × (s < suc m) × (t s ≡ m) → t m ≢ m → Cycles (skip m t) m → Cycles t (suc m)
    behind (u, below, leads) other rest =
        elim (cases_eq u m) [
          | inl same ↦ absurd (other (ap t (sym same) ∙ leads))
          | inr before ↦ with_last m t permutes u (omega arith) leads rest
        ]
