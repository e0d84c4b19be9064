-- Lists without repeats, and lists with one.
use Rattle.std.proofs.Common.{◌≡◌, ◌≢◌, ◌⊎◌, ℕ, zero, suc, ◌<◌, ◌≤◌, List, [], ◌∷◌, ◌++◌, length, get_or, arith, inl, inr, sym, ap}
use Rattle.std.specs.List.{AllByRecursion}
use Rattle.std.proofs.lemmas.Bool.{cases_eq, cases_lt}
use Rattle.sc_theory.specs.Walks.{HasNoRepeat}
use Rattle.sc_chain.proofs.PolygonLaws.{apart}
use Rattle.sc_algebra.proofs.Cycles.{pigeonhole}

-- a place that stands in the list twice
pub record Repeat (xs : List ℕ) : Type 0 where
  pub before : List ℕ
  pub place : ℕ
  pub between : List ℕ
  pub after : List ℕ
  pub is : xs ≡ before ++ place ∷ (between ++ place ∷ after)

-- x stands in the list
pub record Found (x : ℕ) (xs : List ℕ) : Type 0 where
  pub before : List ℕ
  pub after : List ℕ
  pub is : xs ≡ before ++ x ∷ after

-- a number is none of the list, or stands in it
pub find : (x : ℕ) (xs : List ℕ) → AllByRecursion (λ j. x ≢ j) xs ⊎ Found x xs
find x [] = inl tt
find x (y ∷ xs) = elim (cases_eq x y) [
  | inl same ↦ inr (record { before = []; after = xs; is = ap (λ (z : ℕ). z ∷ xs) (sym same) })
  | inr other ↦ elim (find x xs) [
    | inl none ↦ inl (other, none)
    | inr f ↦ inr (record { before = y ∷ f.before; after = f.after; is = ap (λ (zs : List ℕ). y ∷ zs) f.is })
  ]
]

pub simple_or_repeat : (xs : List ℕ) → HasNoRepeat xs ⊎ Repeat xs
simple_or_repeat [] = inl tt
simple_or_repeat (x ∷ xs) = elim (find x xs) [
  | inr f ↦ inr (record { before = []; place = x; between = f.before; after = f.after; is = ap (λ (zs : List ℕ). x ∷ zs) f.is })
  | inl none ↦ elim (simple_or_repeat xs) [
    | inl simple ↦ inl (none, simple)
    | inr r ↦ inr (record { before = x ∷ r.before; place = r.place; between = r.between; after = r.after; is = ap (λ (zs : List ℕ). x ∷ zs) r.is })
  ]
]

-- what holds of all numbers of a list holds of the one at each index
pub all_at : (P : ℕ → Type 0) (xs : List ℕ) → AllByRecursion P xs → (k : ℕ) → k < length xs → P (get_or xs k 0)
all_at P [] all k inside = absurd (omega arith)
all_at P (x ∷ xs) all zero inside = all.0
all_at P (x ∷ xs) all (suc k) inside = all_at P xs all.1 k (omega arith)

-- a list without repeats of numbers below n has at most n of them
pub simple_is_short : (n : ℕ) (xs : List ℕ) → HasNoRepeat xs → AllByRecursion (λ x. x < n) xs → length xs ≤ n
simple_is_short n xs simple below = elim (cases_lt n (length xs)) [
  | inr short ↦ short
  | inl long ↦ clash (pigeonhole n (λ i. get_or xs i 0) (λ i within. all_at (λ x. x < n) xs below i (omega arith)))
]
  where
    clash : (i : ℕ) × (j : ℕ) × (i < j) × (j < suc n) × (get_or xs i 0 ≡ get_or xs j 0) → length xs ≤ n
    clash (i, j, order, within, same) = elim (cases_lt j (length xs)) [
      | inl inside ↦ absurd (apart xs i j simple order inside same)
      | inr past ↦ omega arith
    ]

-- what holds of all of two lists holds of all of both together, and the other way round
pub all-append : (P : ℕ → Type 0) (xs ys : List ℕ) → AllByRecursion P xs → AllByRecursion P ys → AllByRecursion P (xs ++ ys)
all-append P [] ys front rest = rest
all-append P (x ∷ xs) ys front rest = (front.0, all-append P xs ys front.1 rest)

pub all_front : (P : ℕ → Type 0) (xs ys : List ℕ) → AllByRecursion P (xs ++ ys) → AllByRecursion P xs
all_front P [] ys all = tt
all_front P (x ∷ xs) ys all = (all.0, all_front P xs ys all.1)

pub all_rest : (P : ℕ → Type 0) (xs ys : List ℕ) → AllByRecursion P (xs ++ ys) → AllByRecursion P ys
all_rest P [] ys all = all
all_rest P (x ∷ xs) ys all = all_rest P xs ys all.1

-- what follows from P holds of all of a list where P does
pub all-map : (P Q : ℕ → Type 0) → ((x : ℕ) → P x → Q x) → (xs : List ℕ) → AllByRecursion P xs → AllByRecursion Q xs
all-map P Q f [] all = tt
all-map P Q f (x ∷ xs) all = (f x all.0, all-map P Q f xs all.1)
