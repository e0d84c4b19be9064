-- The vertices of a glued surface are as many as the cycles that it is glued of.
use Rattle.std.proofs.Common.{◌≡◌, ℕ, zero, suc, ◌+◌, ◌-◌, ◌<◌, ◌≤◌, Bool, ◌&&◌, eqb, ltb, cond, List, [], ◌∷◌, length, replicate, inl, inr, arith, refl, sym, ap, ap₂, ◌∙◌, length-append}
use Rattle.std.specs.Prelude.{nat_le, sum_by}
use Rattle.std.specs.Fn.{iterate}
use Rattle.std.specs.List.{AllByRecursion}
use Rattle.std.proofs.lemmas.List.{length-replicate}
use Rattle.std.proofs.lemmas.List.Sums.{sum_by-cons}
use Rattle.std.proofs.lemmas.Bool.{cases_eq, cases_Bool, lt-ltb, le-ltb, eq-eqb, ne_eqb, cond-true, cond-false}
use Rattle.sc_algebra.specs.Sums.{count_below}
use Rattle.sc_algebra.specs.Permutations.{is_least_for}
use Rattle.sc_algebra.proofs.Sums.{count-congr, count-append, count_one}
use Rattle.sc_algebra.proofs.Cycles.{least_means_least, least_from_all}
use Rattle.sc_theory.specs.Chains.{Chain}
use Rattle.sc_theory.specs.Fatgraphs.{Sides, turn, vertices}
use Rattle.sc_theory.specs.Walks.{IsClosedWalk}
use Rattle.sc_gluing.specs.Cycles.{Parts, copies_of, round, after, AreCycles}
use Rattle.sc_gluing.specs.Gluing.{IsGlued}
use Rattle.sc_gluing.proofs.CycleLaws.{size, size-cons, round_within, round_last, after_here, after_later, round_inside, after_inside, after_permutes, here_or_later}
use Rattle.sc_gluing.proofs.GluedLaws.{turn_is, sides_along}

-- the first side of the cycle that a side runs along
abbrev start : List (List ℕ) → ℕ → ℕ
start [] s = s
start (w ∷ ws) s = cond (ltb s (length w)) 0 (length w + start ws (s - length w))

start_here : (w : List ℕ) (ws : List (List ℕ)) (s : ℕ) → s < length w → start (w ∷ ws) s ≡ 0
start_here w ws s h = cond-true (ltb s (length w)) 0 (length w + start ws (s - length w)) (lt-ltb s (length w) h)

start_later : (w : List ℕ) (ws : List (List ℕ)) (r : ℕ) → start (w ∷ ws) (length w + r) ≡ length w + start ws r
start_later w ws r =
    let e : (length w + r) - length w ≡ r = omega arith in
    cond-false (ltb (length w + r) (length w)) 0 (length w + start ws ((length w + r) - length w)) (le-ltb (length w + r) (length w) (omega arith))
    ∙ ap (λ (x : ℕ). length w + start ws x) e

start-le : (ws : List (List ℕ)) (s : ℕ) → start ws s ≤ s
start-le [] s = omega arith
start-le (w ∷ ws) s =
    elim (here_or_later (length w) s) [
      | inl here ↦ omega (arith, start_here w ws s here)
      | inr later ↦ omega (arith, later.1, ap (start (w ∷ ws)) later.1, start_later w ws later.0, start-le ws later.0)
    ]

-- the sides of a cycle have one start
start-after : (ws : List (List ℕ)) (s : ℕ) → s < size ws → start ws (after ws s) ≡ start ws s
start-after [] s h = refl
start-after (w ∷ ws) s h =
    elim (here_or_later (length w) s) [
      | inl here ↦
          ap (start (w ∷ ws)) (after_here w ws s here) ∙ start_here w ws (round (length w) s) (round_inside (length w) s here) ∙ sym (start_here w ws s here)
      | inr later ↦
          let r : ℕ = later.0 in
          let e : s ≡ length w + r = later.1 in
          ap (λ (x : ℕ). start (w ∷ ws) (after (w ∷ ws) x)) e
          ∙ ap (start (w ∷ ws)) (after_later w ws r) ∙ start_later w ws (after ws r)
          ∙ ap (λ (x : ℕ). length w + x) (start-after ws r (omega (arith, size-cons w ws)))
          ∙ sym (ap (start (w ∷ ws)) e ∙ start_later w ws r)
    ]

start_of_iterate : (ws : List (List ℕ)) (k s : ℕ) → s < size ws → start ws (iterate (after ws) k s) ≡ start ws s
start_of_iterate ws zero s h = refl
start_of_iterate ws (suc k) s h = start_of_iterate ws k (after ws s) (after_inside ws s h) ∙ start-after ws s h

-- along the first cycle to its start
along_first : (w : List ℕ) (ws : List (List ℕ)) (d s : ℕ) → s + suc d ≡ length w → iterate (after (w ∷ ws)) (suc d) s ≡ 0
along_first w ws zero s e = after_here w ws s (omega arith) ∙ round_last (length w) s (omega arith)
along_first w ws (suc d) s e =
    ap (iterate (after (w ∷ ws)) (suc d)) (after_here w ws s (omega arith) ∙ round_within (length w) s (omega arith)) ∙ along_first w ws d (suc s) (omega arith)

iterate_later : (w : List ℕ) (ws : List (List ℕ)) (k r : ℕ) → iterate (after (w ∷ ws)) k (length w + r) ≡ length w + iterate (after ws) k r
iterate_later w ws zero r = refl
iterate_later w ws (suc k) r = ap (iterate (after (w ∷ ws)) k) (after_later w ws r) ∙ iterate_later w ws k (after ws r)

reached : (ws : List (List ℕ)) (s : ℕ) → s < size ws → (k : ℕ) × (iterate (after ws) k s ≡ start ws s)
reached [] s h = (0, refl)
reached (w ∷ ws) s h =
    elim (here_or_later (length w) s) [
      | inl here ↦
          let d : ℕ = length w - suc s in
          (suc d, along_first w ws d s (omega arith) ∙ sym (start_here w ws s here))
      | inr later ↦
          let r : ℕ = later.0 in
          let rest : (k : ℕ) × (iterate (after ws) k r ≡ start ws r) = reached ws r (omega (arith, later.1, size-cons w ws)) in (
            rest.0,
            ap (iterate (after (w ∷ ws)) rest.0) later.1 ∙ iterate_later w ws rest.0 r ∙ ap (λ (x : ℕ). length w + x) rest.1
                ∙ sym (ap (start (w ∷ ws)) later.1 ∙ start_later w ws r),
          )
    ]

-- a side is the least of its cycle where it is the start
least_is_start : (ws : List (List ℕ)) (s : ℕ) → s < size ws → is_least_for (after ws) (size ws) s ≡ eqb s (start ws s)
least_is_start ws s h =
    elim (cases_eq s (start ws s)) [
      | inl same ↦
          least_from_all (after ws) (size ws) s (λ k. omega (arith, same, start_of_iterate ws k s h, start-le ws (iterate (after ws) k s)))
          ∙ sym (eq-eqb s (start ws s) same)
      | inr other ↦ elim (cases_Bool (is_least_for (after ws) (size ws) s)) [
        | inl e ↦
            let to : (k : ℕ) × (iterate (after ws) k s ≡ start ws s) = reached ws s h in
            absurd (other (omega (arith, least_means_least (after_permutes ws) s h e to.0, to.1, start-le ws s)))
        | inr e ↦ e ∙ sym (ne_eqb s (start ws s) other)
      ]
    ]

-- ---- each cycle has one start
eqb_shifted : (n r t : ℕ) → eqb (n + r) (n + t) ≡ eqb r t
eqb_shifted n r t =
    elim (cases_eq r t) [
      | inl same ↦ eq-eqb (n + r) (n + t) (omega arith) ∙ sym (eq-eqb r t same)
      | inr other ↦ ne_eqb (n + r) (n + t) (λ e. other (omega arith)) ∙ sym (ne_eqb r t other)
    ]

nonempty : (c : Chain) (w : List ℕ) → IsClosedWalk c w → 0 < length w
nonempty c [] walk = absurd walk
nonempty c (i ∷ js) walk = omega arith

count_starts : (c : Chain) (ws : List (List ℕ)) → AllByRecursion (IsClosedWalk c) ws → count_below (λ s. eqb s (start ws s)) (size ws) ≡ length ws
count_starts c [] walks = refl
count_starts c (w ∷ ws) walks =
    let test : ℕ → Bool = λ s. eqb s (start (w ∷ ws) s) in
    ap (count_below test) (size-cons w ws)
    ∙ count-append test (length w) (size ws)
    ∙ ap₂ (λ (x y : ℕ). x + y)
    (count-congr test (λ s. eqb s 0) (length w) (λ s h. ap (eqb s) (start_here w ws s h)) ∙ count_one (length w) 0 (nonempty c w walks.0))
    (count-congr (λ r. test (length w + r)) (λ r. eqb r (start ws r)) (size ws) (λ r h. ap (eqb (length w + r)) (start_later w ws r) ∙ eqb_shifted (length w) r (start ws r))
    ∙ count_starts c ws walks.1)
    ∙ omega arith

-- ---- to turn round a vertex is to run round a cycle
least_same : (t u : ℕ → ℕ) (n s : ℕ) → ((k : ℕ) → iterate t k s ≡ iterate u k s) → is_least_for t n s ≡ is_least_for u n s
least_same t u zero s same = refl
least_same t u (suc n) s same = ap₂ (λ (a b : Bool). a && b) (least_same t u n s same) (ap (nat_le s) (same n))

same_iterates : (t : ℕ → ℕ) (ws : List (List ℕ)) → ((s : ℕ) → s < size ws → t s ≡ after ws s) → (k s : ℕ) → s < size ws → iterate t k s ≡ iterate (after ws) k s
same_iterates t ws same zero s h = refl
same_iterates t ws same (suc k) s h = ap (iterate t k) (same s h) ∙ same_iterates t ws same k (after ws s) (after_inside ws s h)

-- a glued surface has a vertex for each of its cycles
pub cycles_vertices : (c : Chain) (n : ℕ) (ws : List (List ℕ)) (g : Sides) → AreCycles c n ws → IsGlued c ws g → vertices g ≡ length ws
cycles_vertices c n ws g is glued =
    let sides : length g ≡ size ws = sides_along c n ws is g glued in
    let turns : (s : ℕ) → s < size ws → turn g s ≡ after ws s = λ s h. turn_is c n ws is g glued s (omega arith) in
    ap (λ (m : ℕ). count_below (is_least_for (turn g) m) m) sides
    ∙ count-congr (is_least_for (turn g) (size ws)) (λ s. eqb s (start ws s)) (size ws)
    (λ s h. least_same (turn g) (after ws) (size ws) s (λ k. same_iterates (turn g) ws turns k s h) ∙ least_is_start ws s h)
    ∙ count_starts c ws is.closed

-- there are as many cycles as the counts of the parts, summed
pub length-copies_of : (parts : Parts) → length (copies_of parts) ≡ sum_by (λ p. p.1) parts
length-copies_of [] = refl
length-copies_of (p ∷ parts) =
    omega (arith, length-append (replicate p.1 p.0) (copies_of parts), length-replicate p.1 p.0, length-copies_of parts, sum_by-cons (λ (q : List ℕ × ℕ). q.1) p parts)
