-- The words a, b and AB allow one step from each position, so one polygon.
use Rattle.std.proofs.Common.{◌≡◌, ℕ, zero, suc, ◌<◌, Bool, true, eqb, List, [], ◌∷◌, arith, refl, subst, lit<}
use Rattle.std.specs.List.{AllByRecursion}
use Rattle.std.proofs.lemmas.Bool.{eqb-true}
use Rattle.sc_theory.specs.Words.{is_inverse}
use Rattle.sc_theory.specs.Chains.{letter, succ}
use Rattle.sc_theory.specs.Walks.{IsStep, WalksBack, IsPolygon}
use Rattle.sc_theory.specs.Examples.{pants}
use Rattle.sc_theory.proofs.Decisions.{all_below, all_below_at, implies, implies_at, inverse_of_step}

-- where the one step from a position goes
abbrev after : ℕ → ℕ
after zero = 2
after (suc zero) = 3
after (suc (suc zero)) = 1
after (suc (suc (suc i))) = 0

abbrev only_step : ℕ → ℕ → Bool
only_step i j = implies (is_inverse (letter pants (succ pants i)) (letter pants j)) (eqb j (after i))

only_steps : all_below (λ i. all_below (only_step i) 4) 4 ≡ true
only_steps = refl

goes_after : (i j : ℕ) → IsStep pants i j → j ≡ after i
goes_after i j step =
    let row = all_below_at (λ k. all_below (only_step k) 4) 4 i only_steps step.from in
    eqb-true j (after i) (implies_at _ _ (all_below_at (only_step i) 4 j row step.to) (inverse_of_step pants i j step))

-- the rest of a walk from 0, from its third, its second and its first step on
from_3 : (js : List ℕ) → WalksBack pants 0 3 js → AllByRecursion (λ j. 0 < j) js → js ≡ []
from_3 [] walk above = refl
from_3 (j ∷ js) walk above = let e : j ≡ 0 = goes_after 3 j walk.0 in let h : 0 < j = above.0 in absurd (omega arith)

from_1 : (js : List ℕ) → WalksBack pants 0 1 js → AllByRecursion (λ j. 0 < j) js → js ≡ 3 ∷ []
from_1 [] walk above = let e : ◌≡◌ {A = ℕ} 0 3 = goes_after 1 0 walk in absurd (omega arith)
from_1 (j ∷ js) walk above =
    let e : j ≡ 3 = goes_after 1 j walk.0 in
    let rest = from_3 js (subst (λ (x : ℕ). WalksBack pants 0 x js) e walk.1) above.1 in
    cc

from_2 : (js : List ℕ) → WalksBack pants 0 2 js → AllByRecursion (λ j. 0 < j) js → js ≡ 1 ∷ 3 ∷ []
from_2 [] walk above = let e : ◌≡◌ {A = ℕ} 0 1 = goes_after 2 0 walk in absurd (omega arith)
from_2 (j ∷ js) walk above =
    let e : j ≡ 1 = goes_after 2 j walk.0 in
    let rest = from_1 js (subst (λ (x : ℕ). WalksBack pants 0 x js) e walk.1) above.1 in
    cc

from_0 : (js : List ℕ) → WalksBack pants 0 0 js → AllByRecursion (λ j. 0 < j) js → js ≡ 2 ∷ 1 ∷ 3 ∷ []
from_0 [] walk above = let e : ◌≡◌ {A = ℕ} 0 2 = goes_after 0 0 walk in absurd (omega arith)
from_0 (j ∷ js) walk above =
    let e : j ≡ 2 = goes_after 0 j walk.0 in
    let rest = from_2 js (subst (λ (x : ℕ). WalksBack pants 0 x js) e walk.1) above.1 in
    cc

-- no polygon has its least position elsewhere
not_from_3 : (js : List ℕ) → WalksBack pants 1 3 js → AllByRecursion (λ j. 1 < j) js → ⊥
not_from_3 [] walk above = let e : ◌≡◌ {A = ℕ} 1 0 = goes_after 3 1 walk in absurd (omega arith)
not_from_3 (j ∷ js) walk above = let e : j ≡ 0 = goes_after 3 j walk.0 in let h : 1 < j = above.0 in absurd (omega arith)

not_least : (i : ℕ) (js : List ℕ) → i < 4 → 0 < i → WalksBack pants i i js → AllByRecursion (λ j. i < j) js → ⊥
not_least zero js inside positive walk above = absurd (omega arith)
not_least (suc zero) [] inside positive walk above = let e : ◌≡◌ {A = ℕ} 1 3 = goes_after 1 1 walk in absurd (omega arith)
not_least (suc zero) (j ∷ js) inside positive walk above =
    let e : j ≡ 3 = goes_after 1 j walk.0 in
    not_from_3 js (subst (λ (x : ℕ). WalksBack pants 1 x js) e walk.1) above.1
not_least (suc (suc zero)) [] inside positive walk above = let e : ◌≡◌ {A = ℕ} 2 1 = goes_after 2 2 walk in absurd (omega arith)
not_least (suc (suc zero)) (j ∷ js) inside positive walk above = let e : j ≡ 1 = goes_after 2 j walk.0 in let h : 2 < j = above.0 in absurd (omega arith)
not_least (suc (suc (suc i))) [] inside positive walk above = let e : suc (suc (suc i)) ≡ 0 = goes_after (suc (suc (suc i))) (suc (suc (suc i))) walk in absurd (omega arith)
not_least (suc (suc (suc i))) (j ∷ js) inside positive walk above = let e : j ≡ 0 = goes_after (suc (suc (suc i))) j walk.0 in let h : suc (suc (suc i)) < j = above.0 in absurd (omega arith)

starts_inside : (i start : ℕ) (js : List ℕ) → WalksBack pants start i js → i < 4
starts_inside i start [] walk = walk.from
starts_inside i start (j ∷ js) walk = walk.0.from

-- there is no polygon but one
pub only_polygon : (walk : List ℕ) → IsPolygon pants walk → walk ≡ 0 ∷ 2 ∷ 1 ∷ 3 ∷ []
only_polygon [] polygon = absurd polygon.closed
only_polygon (zero ∷ js) polygon = let rest = from_0 js polygon.closed polygon.least in cc
only_polygon (suc i ∷ js) polygon = absurd (not_least (suc i) js (starts_inside (suc i) (suc i) js polygon.closed) (omega arith) polygon.closed polygon.least)

step_0 : IsStep pants 0 2
step_0 = record { from = lit< tt; to = lit< tt; inverse = refl }

step_2 : IsStep pants 2 1
step_2 = record { from = lit< tt; to = lit< tt; inverse = refl }

step_1 : IsStep pants 1 3
step_1 = record { from = lit< tt; to = lit< tt; inverse = refl }

step_3 : IsStep pants 3 0
step_3 = record { from = lit< tt; to = lit< tt; inverse = refl }

-- and that one is a polygon
pub polygon : IsPolygon pants (0 ∷ 2 ∷ 1 ∷ 3 ∷ [])
polygon = record {
  closed = (step_0, (step_2, (step_1, step_3)));
  least = (lit< tt, (lit< tt, (lit< tt, tt)));
  simple = ((λ e. omega arith, (λ e. omega arith, (λ e. omega arith, tt))), ((λ e. omega arith, (λ e. omega arith, tt)), ((λ e. omega arith, tt), (tt, tt))));
}
