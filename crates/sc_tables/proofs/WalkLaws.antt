-- Walks that are put together, cut and turned, and their totals.
use Rattle.std.proofs.Common.{◌≡◌, ℕ, ◌<◌, List, [], ◌∷◌, ◌++◌, ℤ, pos, ◌+ℤ◌, arith, refl, sym, ap, subst, ◌∙◌}
use Rattle.std.specs.List.{AllByRecursion}
use Rattle.std.proofs.lemmas.Int.{ints}
use Rattle.std.proofs.lemmas.List.{append-nil}
use Rattle.sc_theory.specs.Chains.{Chain, positions}
use Rattle.sc_theory.specs.Walks.{IsStep, WalksBack, IsClosedWalk, total_back, walk_total}
use Rattle.sc_tables.specs.Walks.{WalksAlong, end_of}
use Rattle.sc_tables.specs.Totals.{total_along}

-- ---- open walks
-- a walk along two lists is a walk along the first and, from its end on, one along the second
pub walks-append : (c : Chain) (i : ℕ) (js ks : List ℕ) → WalksAlong c i js → WalksAlong c (end_of i js) ks → WalksAlong c i (js ++ ks)
walks-append c i [] ks front rest = rest
walks-append c i (j ∷ js) ks front rest = (front.0, walks-append c j js ks front.1 rest)

pub walks_front : (c : Chain) (i : ℕ) (js ks : List ℕ) → WalksAlong c i (js ++ ks) → WalksAlong c i js
walks_front c i [] ks walk = tt
walks_front c i (j ∷ js) ks walk = (walk.0, walks_front c j js ks walk.1)

pub walks_rest : (c : Chain) (i : ℕ) (js ks : List ℕ) → WalksAlong c i (js ++ ks) → WalksAlong c (end_of i js) ks
walks_rest c i [] ks walk = walk
walks_rest c i (j ∷ js) ks walk = walks_rest c j js ks walk.1

pub end_of-append : (i : ℕ) (js ks : List ℕ) → end_of i (js ++ ks) ≡ end_of (end_of i js) ks
end_of-append i [] ks = refl
end_of-append i (j ∷ js) ks = end_of-append j js ks

regroup : (a b x y : ℤ) → x ≡ a +ℤ b → y +ℤ x ≡ (y +ℤ a) +ℤ b
regroup a b x y e = omega (arith, ints)

from_zero : (x : ℤ) → x ≡ pos 0 +ℤ x
from_zero x = omega (arith, ints)

-- the totals of two walks, one behind the other, add up
pub total_along-append : (f : ℕ → ℕ → ℤ) (i : ℕ) (js ks : List ℕ) → total_along f i (js ++ ks) ≡ total_along f i js +ℤ total_along f (end_of i js) ks
total_along-append f i [] ks = from_zero _
total_along-append f i (j ∷ js) ks = regroup _ _ _ (f i j) (total_along-append f j js ks)

-- ---- closed walks from open ones
-- a walk out with a step to the start leads back to it, and the other way round
pub walks_back : (c : Chain) (start i : ℕ) (js : List ℕ) → WalksAlong c i js → IsStep c (end_of i js) start → WalksBack c start i js
walks_back c start i [] walk step = step
walks_back c start i (j ∷ js) walk step = (walk.0, walks_back c start j js walk.1 step)

pub walks_out : (c : Chain) (start i : ℕ) (js : List ℕ) → WalksBack c start i js → WalksAlong c i js
walks_out c start i [] walk = tt
walks_out c start i (j ∷ js) walk = (walk.0, walks_out c start j js walk.1)

pub last_step : (c : Chain) (start i : ℕ) (js : List ℕ) → WalksBack c start i js → IsStep c (end_of i js) start
last_step c start i [] walk = walk
last_step c start i (j ∷ js) walk = last_step c start j js walk.1

-- a walk that leads back costs the walk out and the last step
pub total_back-is : (f : ℕ → ℕ → ℤ) (start i : ℕ) (js : List ℕ) → total_back f start i js ≡ total_along f i js +ℤ f (end_of i js) start
total_back-is f start i [] = from_zero _
total_back-is f start i (j ∷ js) = regroup _ _ _ (f i j) (total_back-is f start j js)

-- ---- a closed walk that passes a place: the part up to there, and the part from there on
-- the part before the place x leads back to x, and the part from it on to the start
pub part_before : (c : Chain) (start j : ℕ) (b : List ℕ) (x : ℕ) (d : List ℕ) → WalksBack c start j (b ++ x ∷ d) → WalksBack c x j b
part_before c start j [] x d walk = walk.0
part_before c start j (k ∷ b) x d walk = (walk.0, part_before c start k b x d walk.1)

pub part_after : (c : Chain) (start j : ℕ) (b : List ℕ) (x : ℕ) (d : List ℕ) → WalksBack c start j (b ++ x ∷ d) → WalksBack c start x d
part_after c start j [] x d walk = walk.1
part_after c start j (k ∷ b) x d walk = part_after c start k b x d walk.1

-- two such parts make a walk that leads back to the start
pub join : (c : Chain) (start j : ℕ) (b : List ℕ) (x : ℕ) (d : List ℕ) → WalksBack c x j b → WalksBack c start x d → WalksBack c start j (b ++ x ∷ d)
join c start j [] x d front rest = (front, rest)
join c start j (k ∷ b) x d front rest = (front.0, join c start k b x d front.1 rest)

-- the totals of the two parts add up
pub total-through : (f : ℕ → ℕ → ℤ) (start j : ℕ) (b : List ℕ) (x : ℕ) (d : List ℕ) → total_back f start j (b ++ x ∷ d) ≡ total_back f x j b +ℤ total_back f start x d
total-through f start j [] x d = refl
total-through f start j (k ∷ b) x d = regroup _ _ _ (f j k) (total-through f start k b x d)

-- ---- a closed walk that passes a place twice: the closed walk between, and what is left
module _ (c : Chain) (b : List ℕ) (x : ℕ) (d : List ℕ) where
  between_back : (start i : ℕ) (a : List ℕ) → WalksBack c start i (a ++ x ∷ (b ++ x ∷ d)) → WalksBack c x x b
  between_back start i a walk = part_before c start x b x d (part_after c start i a x (b ++ x ∷ d) walk)

  rest_back : (start i : ℕ) (a : List ℕ) → WalksBack c start i (a ++ x ∷ (b ++ x ∷ d)) → WalksBack c start i (a ++ x ∷ d)
  rest_back start i a walk =
      join c start i a x d (part_before c start i a x (b ++ x ∷ d) walk) (part_after c start x b x d (part_after c start i a x (b ++ x ∷ d) walk))

  -- the part between the two places is a closed walk, and so is the walk without it
  pub cut_between : (a : List ℕ) → IsClosedWalk c (a ++ x ∷ (b ++ x ∷ d)) → IsClosedWalk c (x ∷ b)
  cut_between [] walk = part_before c x x b x d walk
  cut_between (i ∷ a) walk = between_back i i a walk

  pub cut_rest : (a : List ℕ) → IsClosedWalk c (a ++ x ∷ (b ++ x ∷ d)) → IsClosedWalk c (a ++ x ∷ d)
  cut_rest [] walk = part_after c x x b x d walk
  cut_rest (i ∷ a) walk = rest_back i i a walk

middle_first : (p q r w v : ℤ) → w ≡ p +ℤ v → v ≡ q +ℤ r → w ≡ q +ℤ (p +ℤ r)
middle_first p q r w v e h = omega (arith, ints)

-- the totals of the two closed walks add up
pub total-cut : (f : ℕ → ℕ → ℤ) (a b : List ℕ) (x : ℕ) (d : List ℕ) → walk_total f (a ++ x ∷ (b ++ x ∷ d)) ≡ walk_total f (x ∷ b) +ℤ walk_total f (a ++ x ∷ d)
total-cut f [] b x d = total-through f x x b x d
total-cut f (i ∷ a) b x d =
    middle_first (total_back f x i a) _ (total_back f i x d) _ _ (total-through f i i a x (b ++ x ∷ d)) (total-through f i x b x d)
    ∙ ap (λ (t : ℤ). total_back f x x b +ℤ t) (sym (total-through f i i a x d))

-- ---- a closed walk that is begun at another of its places
pub turned : (c : Chain) (a : List ℕ) (x : ℕ) (b : List ℕ) → IsClosedWalk c (a ++ x ∷ b) → IsClosedWalk c (x ∷ (b ++ a))
turned c [] x b walk = subst (λ (ys : List ℕ). WalksBack c x x ys) (sym (append-nil b)) walk
turned c (i ∷ a) x b walk = join c x x b i a (part_after c i i a x b walk) (part_before c i i a x b walk)

swapped : (p q w v : ℤ) → w ≡ p +ℤ q → v ≡ q +ℤ p → v ≡ w
swapped p q w v e h = omega (arith, ints)

-- it has the same total
pub total-turned : (f : ℕ → ℕ → ℤ) (a : List ℕ) (x : ℕ) (b : List ℕ) → walk_total f (x ∷ (b ++ a)) ≡ walk_total f (a ++ x ∷ b)
total-turned f [] x b = ap (λ (ys : List ℕ). total_back f x x ys) (append-nil b)
total-turned f (i ∷ a) x b = swapped (total_back f x i a) (total_back f i x b) _ _ (total-through f i i a x b) (total-through f x x b i a)

-- ---- an open walk that passes a place twice
-- the part between the two places is a closed walk, and what is left is a walk
pub open_between : (c : Chain) (i : ℕ) (a : List ℕ) (x : ℕ) (b d : List ℕ) → WalksAlong c i (a ++ x ∷ (b ++ x ∷ d)) → WalksBack c x x b
open_between c i [] x b d walk = closed x b walk.1
  where
    closed : (j : ℕ) (b : List ℕ) → WalksAlong c j (b ++ x ∷ d) → WalksBack c x j b
    closed j [] walk = walk.0
    closed j (k ∷ b) walk = (walk.0, closed k b walk.1)
open_between c i (j ∷ a) x b d walk = open_between c j a x b d walk.1

pub open_rest : (c : Chain) (i : ℕ) (a : List ℕ) (x : ℕ) (b d : List ℕ) → WalksAlong c i (a ++ x ∷ (b ++ x ∷ d)) → WalksAlong c i (a ++ x ∷ d)
open_rest c i [] x b d walk = (walk.0, after x b walk.1)
  where
    after : (j : ℕ) (b : List ℕ) → WalksAlong c j (b ++ x ∷ d) → WalksAlong c x d
    after j [] walk = walk.1
    after j (k ∷ b) walk = after k b walk.1
open_rest c i (j ∷ a) x b d walk = (walk.0, open_rest c j a x b d walk.1)

along-through : (f : ℕ → ℕ → ℤ) (j : ℕ) (b : List ℕ) (x : ℕ) (d : List ℕ) → total_along f j (b ++ x ∷ d) ≡ total_back f x j b +ℤ total_along f x d
along-through f j [] x d = refl
along-through f j (k ∷ b) x d = regroup _ _ _ (f j k) (along-through f k b x d)

-- the totals of both add up
pub total_along-cut : (f : ℕ → ℕ → ℤ) (i : ℕ) (a : List ℕ) (x : ℕ) (b d : List ℕ) → total_along f i (a ++ x ∷ (b ++ x ∷ d)) ≡ walk_total f (x ∷ b) +ℤ total_along f i (a ++ x ∷ d)
total_along-cut f i a x b d =
    middle_first (total_back f x i a) _ (total_along f x d) _ _ (along-through f i a x (b ++ x ∷ d)) (along-through f x b x d)
    ∙ ap (λ (t : ℤ). total_back f x x b +ℤ t) (sym (along-through f i a x d))

-- ---- the places of walks are positions
pub places_inside : (c : Chain) (i : ℕ) (js : List ℕ) → WalksAlong c i js → AllByRecursion (λ j. j < positions c) js
places_inside c i [] walk = tt
places_inside c i (j ∷ js) walk = (walk.0.to, places_inside c j js walk.1)

pub closed_inside : (c : Chain) (walk : List ℕ) → IsClosedWalk c walk → AllByRecursion (λ j. j < positions c) walk
closed_inside c [] walk = absurd walk
closed_inside c (i ∷ js) walk = ((last_step c i i js walk).to, places_inside c i js (walks_out c i i js walk))

-- ---- a closed walk that is gone along twice
pub closed_twice : (c : Chain) (walk : List ℕ) → IsClosedWalk c walk → IsClosedWalk c (walk ++ walk)
closed_twice c [] walk = absurd walk
closed_twice c (i ∷ js) walk = join c i i js i js walk walk
