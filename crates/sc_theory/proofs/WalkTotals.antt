-- The total of a price over a closed walk is linear in the price, and sees the price of steps alone.
use Rattle.std.proofs.Common.{◌≡◌, ℕ, suc, ◌+◌, Bool, true, false, cond, if◌then◌else◌, List, [], ◌∷◌, length, ℤ, pos, ◌+ℤ◌, ◌-ℤ◌, ◌*ℤ◌, arith, refl, sym, ap, ◌∙◌}
use Rattle.std.specs.List.{count_by}
use Rattle.std.proofs.lemmas.Int.{ints}
use Rattle.std.proofs.lemmas.List.Sums.{sum_by-cons}
use Rattle.sc_algebra.specs.Sums.{sum_below}
use Rattle.sc_algebra.proofs.Ints.{mul_add, mul-zero}
use Rattle.sc_algebra.proofs.Sums.{sum-add, sum-zero}
use Rattle.sc_theory.specs.Chains.{Chain}
use Rattle.sc_theory.specs.Walks.{IsStep, WalksBack, IsClosedWalk, total_back, walk_total}

total-congr : (c : Chain) (f g : ℕ → ℕ → ℤ) → ((i j : ℕ) → IsStep c i j → f i j ≡ g i j) → (start i : ℕ) (js : List ℕ) → WalksBack c start i js → total_back f start i js ≡ total_back g start i js
total-congr c f g same start i [] walk = same i start walk
total-congr c f g same start i (j ∷ js) walk =
    let one = same i j walk.0 in
    let rest = total-congr c f g same start j js walk.1 in
    cc

-- prices that agree on the steps have the same total over a closed walk
pub walk_total-congr : (c : Chain) (f g : ℕ → ℕ → ℤ) → ((i j : ℕ) → IsStep c i j → f i j ≡ g i j) → (walk : List ℕ) → IsClosedWalk c walk → walk_total f walk ≡ walk_total g walk
walk_total-congr c f g same [] walk = refl
walk_total-congr c f g same (i ∷ js) walk = total-congr c f g same i i js walk

differences : (a b x y : ℤ) → (a -ℤ b) +ℤ (x -ℤ y) ≡ (a +ℤ x) -ℤ (b +ℤ y)
differences a b x y = omega (arith, ints)

total-sub : (f g : ℕ → ℕ → ℤ) (start i : ℕ) (js : List ℕ) → total_back (λ a b. f a b -ℤ g a b) start i js ≡ total_back f start i js -ℤ total_back g start i js
total-sub f g start i [] = refl
total-sub f g start i (j ∷ js) = ap (λ (x : ℤ). (f i j -ℤ g i j) +ℤ x) (total-sub f g start j js) ∙ differences (f i j) (g i j) _ _

-- the total of a difference, of a multiple and of a sum of prices is that of the totals
pub walk_total-sub : (f g : ℕ → ℕ → ℤ) (walk : List ℕ) → walk_total (λ a b. f a b -ℤ g a b) walk ≡ walk_total f walk -ℤ walk_total g walk
walk_total-sub f g [] = refl
walk_total-sub f g (i ∷ js) = total-sub f g i i js

total-mul : (a : ℤ) (f : ℕ → ℕ → ℤ) (start i : ℕ) (js : List ℕ) → total_back (λ p q. a *ℤ f p q) start i js ≡ a *ℤ total_back f start i js
total-mul a f start i [] = refl
total-mul a f start i (j ∷ js) = ap (λ (x : ℤ). a *ℤ f i j +ℤ x) (total-mul a f start j js) ∙ sym (mul_add a (f i j) _)

pub walk_total-mul : (a : ℤ) (f : ℕ → ℕ → ℤ) (walk : List ℕ) → walk_total (λ p q. a *ℤ f p q) walk ≡ a *ℤ walk_total f walk
walk_total-mul a f [] = sym (mul-zero a)
walk_total-mul a f (i ∷ js) = total-mul a f i i js

total-sum : (f : ℕ → ℕ → ℕ → ℤ) (n start i : ℕ) (js : List ℕ) → sum_below (λ k. total_back (f k) start i js) n ≡ total_back (λ p q. sum_below (λ k. f k p q) n) start i js
total-sum f n start i [] = refl
total-sum f n start i (j ∷ js) =
    sum-add (λ k. f k i j) (λ k. total_back (f k) start j js) n ∙ ap (λ (x : ℤ). sum_below (λ k. f k i j) n +ℤ x) (total-sum f n start j js)

pub walk_total-sum : (f : ℕ → ℕ → ℕ → ℤ) (n : ℕ) (walk : List ℕ) → sum_below (λ k. walk_total (f k) walk) n ≡ walk_total (λ p q. sum_below (λ k. f k p q) n) walk
walk_total-sum f n [] = sum-zero n
walk_total-sum f n (i ∷ js) = total-sum f n i i js

-- the steps that end at a position that passes a test are as many as the positions that do
abbrev pub ends_at : (ℕ → Bool) → ℕ → ℕ → ℤ
ends_at test i j = if test j then pos 1 else pos 0

nothing_before : (a : ℤ) → a ≡ pos 0 +ℤ a
nothing_before a = omega (arith, ints)

counted : (b : Bool) (n m : ℕ) → m ≡ cond b 1 0 + n → pos n +ℤ (if b then pos 1 else pos 0) ≡ pos m
counted true n m e = omega (arith, ints)
counted false n m e = omega (arith, ints)

one_more : (b : Bool) (n m : ℕ) (x y : ℤ) → m ≡ cond b 1 0 + n → x ≡ pos n +ℤ y → (if b then pos 1 else pos 0) +ℤ x ≡ pos m +ℤ y
one_more true n m x y e h = omega (arith, ints)
one_more false n m x y e h = omega (arith, ints)

total_ends : (test : ℕ → Bool) (start i : ℕ) (js : List ℕ) → total_back (ends_at test) start i js ≡ pos (count_by test js) +ℤ ends_at test i start
total_ends test start i [] = nothing_before _
total_ends test start i (j ∷ js) = one_more (test j) (count_by test js) (count_by test (j ∷ js)) _ _ (sum_by-cons (λ (x : ℕ). cond (test x) 1 0) j js) (total_ends test start j js)

-- their total is the number of positions of the walk that pass
pub walk_total-ends : (test : ℕ → Bool) (walk : List ℕ) → walk_total (ends_at test) walk ≡ pos (count_by test walk)
walk_total-ends test [] = refl
walk_total-ends test (i ∷ js) = total_ends test i i js ∙ counted (test i) (count_by test js) (count_by test (i ∷ js)) (sum_by-cons (λ (x : ℕ). cond (test x) 1 0) i js)

-- a price that is the rise of a height, and one more for each step, comes to the number of steps
abbrev pub climb : (ℕ → ℕ) → ℕ → ℕ → ℤ
climb height i j = pos (suc (height i)) -ℤ pos (height j)

total_climb : (height : ℕ → ℕ) (start i : ℕ) (js : List ℕ) → total_back (climb height) start i js ≡ (pos (suc (length js)) +ℤ pos (height i)) -ℤ pos (height start)
total_climb height start i [] = omega (arith, ints)
total_climb height start i (j ∷ js) = let rest = total_climb height start j js in omega (arith, ints)

-- round a closed walk the rises cancel, and the number of steps is left
pub walk_total-climb : (height : ℕ → ℕ) (walk : List ℕ) → walk_total (climb height) walk ≡ pos (length walk)
walk_total-climb height [] = refl
walk_total-climb height (i ∷ js) = let all = total_climb height i i js in omega (arith, ints)

-- one price or another, by a test
pub walk_total_choice : (b : Bool) (x y : ℤ) (f g : ℕ → ℕ → ℤ) (walk : List ℕ) → x ≡ walk_total f walk → y ≡ walk_total g walk → (if b then x else y) ≡ walk_total (λ i j. if b then f i j else g i j) walk
walk_total_choice true x y f g walk e h = e
walk_total_choice false x y f g walk e h = h
