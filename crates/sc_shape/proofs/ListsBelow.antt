-- The numbers below a bound that pass a test, in order.
use Rattle.std.proofs.Common.{◌≡◌, ◌≢◌, ℕ, zero, suc, ◌+◌, ◌<◌, Bool, true, false, inl, inr, List, [], ◌∷◌, ◌++◌, length, map, get_or, sym, ◌∙◌, ap, ap₂, refl, arith}
use Rattle.std.proofs.Math.ListN.{set, get_or-append}
use Rattle.std.proofs.Math.Seq.{get_or-append_seam}
use Rattle.std.proofs.lemmas.Bool.{cases_eq, cases_lt, cases_Bool}
use Rattle.std.proofs.lemmas.List.{length-append, map-append}
use Rattle.sc_algebra.specs.Sums.{count_below}
use Rattle.sc_shape.specs.Shapes.{list_below}

-- ---- the next number, which passes or fails
-- a number that passes is the next in the list, and one that fails isn't in it
pub list_passes : (test : ℕ → Bool) (n : ℕ) → test n ≡ true → list_below test (suc n) ≡ list_below test n ++ n ∷ []
list_passes test n e = rw e refl

pub list_fails : (test : ℕ → Bool) (n : ℕ) → test n ≡ false → list_below test (suc n) ≡ list_below test n
list_fails test n e = rw e (append_nil (list_below test n))
  where
    append_nil : (xs : List ℕ) → xs ++ [] ≡ xs
    append_nil [] = refl
    append_nil (x ∷ xs) = ap (λ (ys : List ℕ). x ∷ ys) (append_nil xs)

count_passes : (test : ℕ → Bool) (n : ℕ) → test n ≡ true → count_below test (suc n) ≡ count_below test n + 1
count_passes test n e = rw e refl

count_fails : (test : ℕ → Bool) (n : ℕ) → test n ≡ false → count_below test (suc n) ≡ count_below test n
count_fails test n e = rw e (omega arith)

-- ---- length and places
-- the list is as long as the count
pub length-list_below : (test : ℕ → Bool) (n : ℕ) → length (list_below test n) ≡ count_below test n
length-list_below test zero = refl
length-list_below test (suc n) =
    elim (cases_Bool (test n)) [
      | inl e ↦ rw (list_passes test n e, count_passes test n e) (length-append (list_below test n) (n ∷ []) ∙ ap (λ (k : ℕ). k + 1) (length-list_below test n))
      | inr e ↦ rw (list_fails test n e, count_fails test n e) (length-list_below test n)
    ]

-- below a number that passes fewer pass than below a greater one
pub count_less : (test : ℕ → Bool) (n r : ℕ) → r < n → test r ≡ true → count_below test r < count_below test n
count_less test zero r l e = absurd (omega (arith, l))
count_less test (suc n) r l e =
    elim (cases_eq r n) [
      | inl at ↦ rw at (let t : test n ≡ true = rw at at e in omega (arith, count_passes test n t))
      | inr off ↦
          let ih : count_below test r < count_below test n = count_less test n r (omega arith) e in
          elim (cases_Bool (test n)) [
            | inl t ↦ omega (arith, ih, count_passes test n t)
            | inr f ↦ omega (arith, ih, count_fails test n f)
          ]
    ]

-- a number that passes stands behind as many as pass before it
pub get-list_below : (test : ℕ → Bool) (n r : ℕ) → r < n → test r ≡ true → get_or (list_below test n) (count_below test r) 0 ≡ r
get-list_below test zero r l e = absurd (omega (arith, l))
get-list_below test (suc n) r l e =
    elim (cases_eq r n) [
      | inl at ↦
          let t : test n ≡ true = ap test (sym at) ∙ e in
          rw (list_passes test n t, at, ← length-list_below test n) (get_or-append_seam (list_below test n) n [] 0)
      | inr off ↦
          let b : r < n = omega arith in
          let inside : count_below test r < length (list_below test n) = rw (length-list_below test n) (count_less test n r b e) in
          let ih = get-list_below test n r b e in
          elim (cases_Bool (test n)) [
            | inl t ↦ rw (list_passes test n t) (get_or-append (list_below test n) (n ∷ []) 0 (count_below test r) inside ∙ ih)
            | inr f ↦ rw (list_fails test n f) ih
          ]
    ]

-- at each place stands such a number
pub find-list_below : (test : ℕ → Bool) (n k : ℕ) → k < count_below test n → (r : ℕ) × (r < n) × (test r ≡ true) × (count_below test r ≡ k)
find-list_below test zero k l = absurd (omega (arith, l))
find-list_below test (suc n) k l =
    elim (cases_Bool (test n)) [
      | inl t ↦
          elim (cases_lt k (count_below test n)) [
            | inl b ↦ more (find-list_below test n k b)
            | inr b ↦ (n, omega arith, t, omega (arith, l, b, count_passes test n t))
          ]
      | inr f ↦ more (find-list_below test n k (omega (arith, l, count_fails test n f)))
    ]
  where
    more : (r : ℕ) × (r < n) × (test r ≡ true) × (count_below test r ≡ k) → (r : ℕ) × (r < suc n) × (test r ≡ true) × (count_below test r ≡ k)
    more (r, b, t, e) = (r, omega (arith, b), t, e)

-- ---- maps of lists
-- maps that are the same at the numbers that pass map the list to the same one
pub map-list_below : {A : Type 0} (h h' : ℕ → A) (test : ℕ → Bool) (n : ℕ) → ((r : ℕ) → r < n → test r ≡ true → h r ≡ h' r) → map h (list_below test n) ≡ map h' (list_below test n)
map-list_below h h' test zero same = refl
map-list_below h h' test (suc n) same =
    let ih = map-list_below h h' test n (λ r l. same r (omega (arith, l))) in
    elim (cases_Bool (test n)) [
      | inl t ↦
          rw (list_passes test n t, map-append h (list_below test n) (n ∷ []), map-append h' (list_below test n) (n ∷ []))
          (ap₂ (λ xs ys. xs ++ ys) ih (ap (λ x. x ∷ []) (same n (omega arith) t)))
      | inr f ↦ rw (list_fails test n f) ih
    ]

pub map_map : {A B C : Type 0} (f : B → C) (h : A → B) (xs : List A) → map f (map h xs) ≡ map (λ x. f (h x)) xs
map_map f h [] = refl
map_map f h (x ∷ xs) = ap (λ ys. f (h x) ∷ ys) (map_map f h xs)

-- two maps that agree at each place, or at each place but one
pub map_same : {A B : Type 0} (h h' : A → B) (xs : List A) (d : A) → ((k : ℕ) → k < length xs → h' (get_or xs k d) ≡ h (get_or xs k d)) → map h' xs ≡ map h xs
map_same h h' [] d same = refl
map_same h h' (x ∷ xs) d same = ap₂ (λ y ys. y ∷ ys) (same 0 (omega arith)) (map_same h h' xs d (λ k l. same (suc k) (omega (arith, l))))

-- maps that are the same but at one place map the list to the same one with that place set
pub map_but_one : {A B : Type 0} (h h' : A → B) (xs : List A) (d : A) (p : ℕ) → p < length xs → ((k : ℕ) → k < length xs → k ≢ p → h' (get_or xs k d) ≡ h (get_or xs k d)) → map h' xs ≡ set (map h xs) p (h' (get_or xs p d))
map_but_one h h' [] d p l same = absurd (omega (arith, l))
map_but_one h h' (x ∷ xs) d zero l same = ap (λ ys. h' x ∷ ys) (map_same h h' xs d (λ k b. same (suc k) (omega (arith, b)) (λ e. omega (arith, e))))
map_but_one h h' (x ∷ xs) d (suc p) l same =
    ap₂ (λ y ys. y ∷ ys) (same 0 (omega arith) (λ e. omega (arith, e)))
    (map_but_one h h' xs d p (omega (arith, l)) (λ k b differ. same (suc k) (omega (arith, b)) (λ e. differ (omega (arith, e)))))

pub get-map : {A B : Type 0} (h : A → B) (xs : List A) (k : ℕ) (d : A) (e : B) → k < length xs → get_or (map h xs) k e ≡ h (get_or xs k d)
get-map h [] k d e l = absurd (omega (arith, l))
get-map h (x ∷ xs) zero d e l = refl
get-map h (x ∷ xs) (suc k) d e l = get-map h xs k d e (omega (arith, l))

pub length_of_map : {A B : Type 0} (h : A → B) (xs : List A) → length (map h xs) ≡ length xs
length_of_map h [] = refl
length_of_map h (x ∷ xs) = ap suc (length_of_map h xs)
