-- Sums over lists that are made by `map`, `filter` and `flat_map`, as sums below a bound.
use Rattle.std.proofs.Common.{◌≡◌, ℕ, zero, suc, ◌+◌, Bool, true, false, if◌then◌else◌, List, [], ◌∷◌, ◌++◌, map, length, get_or, ℤ, pos, ◌+ℤ◌, arith, refl, sym, ap, ◌∙◌}
use Rattle.std.specs.List.{filter, flat_map, range_with_len}
use Rattle.std.proofs.lemmas.Int.{ints}
use Rattle.sc_algebra.specs.Sums.{sum_below}
use Rattle.sc_algebra.proofs.Sums.{sum-congr, sum_first}

-- the sum of a function over the elements of a list
abbrev pub list_sum : {X : Type 0} → (X → ℤ) → List X → ℤ
list_sum f [] = pos 0
list_sum f (x ∷ xs) = f x +ℤ list_sum f xs

-- the same sum over the places of the list
pub list_sum_is : {X : Type 0} (f : X → ℤ) (xs : List X) (d : X) → sum_below (λ k. f (get_or xs k d)) (length xs) ≡ list_sum f xs
list_sum_is f [] d = refl
list_sum_is f (x ∷ xs) d = sum_first (λ k. f (get_or (x ∷ xs) k d)) (length xs) ∙ ap (λ (t : ℤ). f x +ℤ t) (list_sum_is f xs d)

nothing_before : (a : ℤ) → a ≡ pos 0 +ℤ a
nothing_before a = omega (arith, ints)

grouped : (a b c : ℤ) → a +ℤ (b +ℤ c) ≡ (a +ℤ b) +ℤ c
grouped a b c = omega (arith, ints)

list_sum-append : {X : Type 0} (f : X → ℤ) (xs ys : List X) → list_sum f (xs ++ ys) ≡ list_sum f xs +ℤ list_sum f ys
list_sum-append f [] ys = nothing_before _
list_sum-append f (x ∷ xs) ys = ap (λ (t : ℤ). f x +ℤ t) (list_sum-append f xs ys) ∙ grouped (f x) _ _

-- sums over lists that `flat_map`, `map` and `filter` make, as sums over the lists that they are made of
pub list_sum-flat_map : {X Y : Type 0} (f : Y → ℤ) (h : X → List Y) (xs : List X) → list_sum f (flat_map h xs) ≡ list_sum (λ x. list_sum f (h x)) xs
list_sum-flat_map f h [] = refl
list_sum-flat_map f h (x ∷ xs) = list_sum-append f (h x) (flat_map h xs) ∙ ap (λ (t : ℤ). list_sum f (h x) +ℤ t) (list_sum-flat_map f h xs)

pub list_sum-map : {X Y : Type 0} (f : Y → ℤ) (h : X → Y) (xs : List X) → list_sum f (map h xs) ≡ list_sum (λ x. f (h x)) xs
list_sum-map f h [] = refl
list_sum-map f h (x ∷ xs) = ap (λ (t : ℤ). f (h x) +ℤ t) (list_sum-map f h xs)

kept : {X : Type 0} (f : X → ℤ) (b : Bool) (x : X) (xs : List X) → list_sum f (if b then x ∷ xs else xs) ≡ (if b then f x else pos 0) +ℤ list_sum f xs
kept f true x xs = refl
kept f false x xs = nothing_before _

pub list_sum-filter : {X : Type 0} (f : X → ℤ) (test : X → Bool) (xs : List X) → list_sum f (filter test xs) ≡ list_sum (λ x. if test x then f x else pos 0) xs
list_sum-filter f test [] = refl
list_sum-filter f test (x ∷ xs) = kept f (test x) x (filter test xs) ∙ ap (λ (t : ℤ). (if test x then f x else pos 0) +ℤ t) (list_sum-filter f test xs)

-- sums over numbers in a row, as sums below a bound
pub list_sum-range : (f : ℕ → ℤ) (a n : ℕ) → list_sum f (range_with_len a n) ≡ sum_below (λ k. f (a + k)) n
list_sum-range f a zero = refl
list_sum-range f a (suc n) =
    let e : a ≡ a + 0 = omega arith in
    ap (λ (t : ℤ). f a +ℤ t) (list_sum-range f (a + 1) n ∙ sum-congr _ _ n (λ k _. ap f (omega arith)))
    ∙ ap (λ (b : ℕ). f b +ℤ sum_below (λ k. f (a + suc k)) n) e
    ∙ sym (sum_first (λ k. f (a + k)) n)

pub list_sum-below : (f : ℕ → ℤ) (n : ℕ) → list_sum f (range_with_len 0 n) ≡ sum_below f n
list_sum-below f n = list_sum-range f 0 n ∙ sum-congr _ _ n (λ k _. ap f (omega arith))
