-- The sides along cycles: the side after a side permutes them, and sums over the sides are totals of the cycles.
use Rattle.std.proofs.Common.{◌≡◌, ℕ, zero, suc, ◌+◌, ◌-◌, ◌<◌, eqb, ltb, List, [], ◌∷◌, ◌++◌, length, get_or, ℤ, pos, ◌+ℤ◌, ◌⊎◌, inl, inr, arith, refl, sym, ap, ap₂, subst, subst₂, ◌∙◌, length-append}
use Rattle.std.specs.List.{AllByRecursion}
use Rattle.std.proofs.Math.Seq.{get_or-append_seam}
use Rattle.std.proofs.lemmas.Int.{ints}
use Rattle.std.proofs.lemmas.List.{get_or_append_left, get_or-append-add}
use Rattle.std.proofs.lemmas.Bool.{cases_lt, cases_eq, lt-ltb, le-ltb, eq-eqb, ne_eqb, cond-true, cond-false}
use Rattle.sc_algebra.specs.Sums.{sum_below}
use Rattle.sc_algebra.specs.Permutations.{IsPermutation}
use Rattle.sc_algebra.proofs.Sums.{sum-congr, sum-append, sum_first}
use Rattle.sc_theory.specs.Chains.{Chain}
use Rattle.sc_theory.specs.Walks.{IsStep, WalksBack, IsClosedWalk, total_back, walk_total, walks_total}
use Rattle.sc_gluing.specs.Cycles.{labels_of, at, round, after}

-- the number of sides along the cycles
abbrev pub size : List (List ℕ) → ℕ
size ws = length (labels_of ws)

pub size-cons : (w : List ℕ) (ws : List (List ℕ)) → size (w ∷ ws) ≡ length w + size ws
size-cons w ws = length-append w (labels_of ws)

-- ---- the first cycle and those behind it
-- the next place of a list, and 0 behind its last place
pub round_within : (n s : ℕ) → suc s < n → round n s ≡ suc s
round_within n s h = cond-false (eqb (suc s) n) 0 (suc s) (ne_eqb (suc s) n (λ e. omega arith))

pub round_last : (n s : ℕ) → suc s ≡ n → round n s ≡ 0
round_last n s e = cond-true (eqb (suc s) n) 0 (suc s) (eq-eqb (suc s) n e)

pub at_here : (w : List ℕ) (ws : List (List ℕ)) (s : ℕ) → s < length w → at (w ∷ ws) s ≡ get_or w s 0
at_here w ws s h = get_or_append_left w (labels_of ws) 0 s h

pub at_later : (w : List ℕ) (ws : List (List ℕ)) (r : ℕ) → at (w ∷ ws) (length w + r) ≡ at ws r
at_later w ws r = get_or-append-add w (labels_of ws) r 0

pub after_here : (w : List ℕ) (ws : List (List ℕ)) (s : ℕ) → s < length w → after (w ∷ ws) s ≡ round (length w) s
after_here w ws s h = cond-true (ltb s (length w)) (round (length w) s) (length w + after ws (s - length w)) (lt-ltb s (length w) h)

pub after_later : (w : List ℕ) (ws : List (List ℕ)) (r : ℕ) → after (w ∷ ws) (length w + r) ≡ length w + after ws r
after_later w ws r =
    let e : (length w + r) - length w ≡ r = omega arith in
    cond-false (ltb (length w + r) (length w)) (round (length w) (length w + r)) (length w + after ws ((length w + r) - length w)) (le-ltb (length w + r) (length w) (omega arith))
    ∙ ap (λ (x : ℕ). length w + after ws x) e

pub round_inside : (n s : ℕ) → s < n → round n s < n
round_inside n s h =
    elim (cases_eq (suc s) n) [
      | inl last ↦ omega (arith, round_last n s last)
      | inr other ↦ omega (arith, round_within n s (omega arith))
    ]

round_apart : (n s t : ℕ) → s < n → t < n → round n s ≡ round n t → s ≡ t
round_apart n s t h k e =
    elim (cases_eq (suc s) n) [
      | inl a ↦ elim (cases_eq (suc t) n) [
        | inl b ↦ omega arith
        | inr b ↦ absurd (omega (arith, round_last n s a, round_within n t (omega arith)))
      ]
      | inr a ↦ elim (cases_eq (suc t) n) [
        | inl b ↦ absurd (omega (arith, round_within n s (omega arith), round_last n t b))
        | inr b ↦ omega (arith, round_within n s (omega arith), round_within n t (omega arith))
      ]
    ]

-- ---- the side after a side is a side, and no two have the same one after them
-- a side of the first cycle, or one of those behind it
pub here_or_later : (n s : ℕ) → (s < n) ⊎ ((r : ℕ) × (s ≡ n + r))
here_or_later n s = elim (cases_lt s n) [ inl h ↦ inl h | inr h ↦ inr (s - n, omega arith) ]

pub after_inside : (ws : List (List ℕ)) (s : ℕ) → s < size ws → after ws s < size ws
after_inside [] s h = h
after_inside (w ∷ ws) s h =
    elim (here_or_later (length w) s) [
      | inl here ↦ omega (arith, after_here w ws s here, round_inside (length w) s here, size-cons w ws)
      | inr later ↦
          let r : ℕ = later.0 in
          omega (arith, ap (after (w ∷ ws)) later.1, after_later w ws r, after_inside ws r (omega (arith, later.1, size-cons w ws)), size-cons w ws)
    ]

pub after_apart : (ws : List (List ℕ)) (s t : ℕ) → s < size ws → t < size ws → after ws s ≡ after ws t → s ≡ t
after_apart [] s t h k e = e
after_apart (w ∷ ws) s t h k e =
    elim (here_or_later (length w) s) [
      | inl a ↦ elim (here_or_later (length w) t) [
        | inl b ↦ round_apart (length w) s t a b (sym (after_here w ws s a) ∙ e ∙ after_here w ws t b)
        | inr b ↦ absurd (omega (arith, e, after_here w ws s a, round_inside (length w) s a, ap (after (w ∷ ws)) b.1, after_later w ws b.0))
      ]
      | inr a ↦ elim (here_or_later (length w) t) [
        | inl b ↦ absurd (omega (arith, e, after_here w ws t b, round_inside (length w) t b, ap (after (w ∷ ws)) a.1, after_later w ws a.0))
        | inr b ↦
            let rest = after_apart ws a.0 b.0 (omega (arith, a.1, size-cons w ws)) (omega (arith, b.1, size-cons w ws))
            (omega (arith, e, ap (after (w ∷ ws)) a.1, after_later w ws a.0, ap (after (w ∷ ws)) b.1, after_later w ws b.0)) in
            omega (arith, rest, a.1, b.1)
      ]
    ]

pub after_permutes : (ws : List (List ℕ)) → IsPermutation (after ws) (size ws)
after_permutes ws = record { into = after_inside ws; apart = after_apart ws }

-- ---- the steps along one cycle
-- the positions where the steps from i along js and back to the start end
abbrev ends : ℕ → List ℕ → ℕ → ℕ
ends start js s = get_or (js ++ start ∷ []) s 0

end_of_step : (i : ℕ) (js : List ℕ) (s : ℕ) → s < suc (length js) → get_or (i ∷ js) (round (suc (length js)) s) 0 ≡ ends i js s
end_of_step i js s h =
    elim (cases_eq (suc s) (suc (length js))) [
      | inl last ↦
          let e : length js ≡ s = omega arith in
          ap (λ (x : ℕ). get_or (i ∷ js) x 0) (round_last (suc (length js)) s last) ∙ sym (get_or-append_seam js i [] 0) ∙ ap (ends i js) e
      | inr other ↦
          ap (λ (x : ℕ). get_or (i ∷ js) x 0) (round_within (suc (length js)) s (omega arith)) ∙ sym (get_or_append_left js (i ∷ []) 0 s (omega arith))
    ]

no_more : (x : ℤ) → pos 0 +ℤ x ≡ x
no_more x = omega (arith, ints)

total_by_places : (f : ℕ → ℕ → ℤ) (start i : ℕ) (js : List ℕ) → sum_below (λ s. f (get_or (i ∷ js) s 0) (ends start js s)) (suc (length js)) ≡ total_back f start i js
total_by_places f start i [] = no_more (f i start)
total_by_places f start i (j ∷ js) =
    sum_first (λ s. f (get_or (i ∷ j ∷ js) s 0) (ends start (j ∷ js) s)) (suc (length js))
    ∙ ap (λ (x : ℤ). f i j +ℤ x) (total_by_places f start j js)

step_at_place : (c : Chain) (start i : ℕ) (js : List ℕ) (s : ℕ) → WalksBack c start i js → s < suc (length js) → IsStep c (get_or (i ∷ js) s 0) (ends start js s)
step_at_place c start i [] zero walk h = walk
step_at_place c start i [] (suc s) walk h = absurd (omega arith)
step_at_place c start i (j ∷ js) zero walk h = walk.0
step_at_place c start i (j ∷ js) (suc s) walk h = step_at_place c start j js s walk.1 (omega arith)

-- ---- along all cycles
-- the sum over the sides of the first cycle
first_total : (f : ℕ → ℕ → ℤ) (w : List ℕ) → sum_below (λ s. f (get_or w s 0) (get_or w (round (length w) s) 0)) (length w) ≡ walk_total f w
first_total f [] = refl
first_total f (i ∷ js) =
    sum-congr _ (λ s. f (get_or (i ∷ js) s 0) (ends i js s)) (suc (length js)) (λ s h. ap (f (get_or (i ∷ js) s 0)) (end_of_step i js s h))
    ∙ total_by_places f i i js

-- the label of the side after a side, in the first cycle and in those behind it
pub at_after_here : (w : List ℕ) (ws : List (List ℕ)) (s : ℕ) → s < length w → at (w ∷ ws) (after (w ∷ ws) s) ≡ get_or w (round (length w) s) 0
at_after_here w ws s h = ap (at (w ∷ ws)) (after_here w ws s h) ∙ at_here w ws (round (length w) s) (round_inside (length w) s h)

pub at_after_later : (w : List ℕ) (ws : List (List ℕ)) (r : ℕ) → at (w ∷ ws) (after (w ∷ ws) (length w + r)) ≡ at ws (after ws r)
at_after_later w ws r = ap (at (w ∷ ws)) (after_later w ws r) ∙ at_later w ws (after ws r)

-- a sum over the sides, of a side's label and that of the one after it, is the total of the cycles
pub sides_total : (f : ℕ → ℕ → ℤ) (ws : List (List ℕ)) → sum_below (λ s. f (at ws s) (at ws (after ws s))) (size ws) ≡ walks_total f ws
sides_total f [] = refl
sides_total f (w ∷ ws) =
    let step : ℕ → ℤ = λ s. f (at (w ∷ ws) s) (at (w ∷ ws) (after (w ∷ ws) s)) in
    ap (sum_below step) (size-cons w ws)
    ∙ sum-append step (length w) (size ws)
    ∙ ap₂ (λ (x y : ℤ). x +ℤ y)
    (sum-congr step (λ s. f (get_or w s 0) (get_or w (round (length w) s) 0)) (length w) (λ s h. ap₂ f (at_here w ws s h) (at_after_here w ws s h)) ∙ first_total f w)
    (sum-congr (λ r. step (length w + r)) (λ r. f (at ws r) (at ws (after ws r))) (size ws) (λ r h. ap₂ f (at_later w ws r) (at_after_later w ws r)) ∙ sides_total f ws)

step_here : (c : Chain) (w : List ℕ) (s : ℕ) → IsClosedWalk c w → s < length w → IsStep c (get_or w s 0) (get_or w (round (length w) s) 0)
step_here c [] s walk h = absurd walk
step_here c (i ∷ js) s walk h = subst (IsStep c (get_or (i ∷ js) s 0)) (sym (end_of_step i js s h)) (step_at_place c i i js s walk h)

-- where the cycles are closed walks, a step leads from each side's label to that of the side after it
pub begins_step : (c : Chain) (ws : List (List ℕ)) (s : ℕ) → AllByRecursion (IsClosedWalk c) ws → s < size ws → IsStep c (at ws s) (at ws (after ws s))
begins_step c [] s walks h = absurd (omega arith)
begins_step c (w ∷ ws) s walks h =
    elim (here_or_later (length w) s) [
      | inl here ↦ subst₂ (IsStep c) (sym (at_here w ws s here)) (sym (at_after_here w ws s here)) (step_here c w s walks.0 here)
      | inr later ↦
          let r : ℕ = later.0 in
          subst₂ (IsStep c) (sym (ap (at (w ∷ ws)) later.1 ∙ at_later w ws r))
          (sym (ap (λ (x : ℕ). at (w ∷ ws) (after (w ∷ ws) x)) later.1 ∙ at_after_later w ws r))
          (begins_step c ws r walks.1 (omega (arith, later.1, size-cons w ws)))
    ]
