-- The place of a pair in a list of pairs, and lists of pairs that are made first by first, second by second.
use Rattle.std.proofs.Common.{◌≡◌, ℕ, zero, suc, ◌+◌, ◌<◌, ◌≤◌, Bool, true, false, ◌&&◌, eqb, List, [], ◌∷◌, ◌++◌, map, length, get_or, inl, inr, arith, refl, sym, ap, subst, ◌∙◌, length-append, append_assoc, append-nil}
use Rattle.std.specs.List.{AllByRecursion, filter, flat_map, range_with_len}
use Rattle.std.proofs.lemmas.Bool.{cases_Bool, cases_eq, and_parts, and_from, and_left, and_right, true≢false, eqb-true, eq-eqb, ne_eqb, cond-true, cond-false}
use Rattle.sc_theory.specs.Prices.{place_of}

suc_is : (n : ℕ) → suc n ≡ n + 1
suc_is n = omega arith

-- whether a pair is that of p and q
abbrev pub same : ℕ × ℕ → ℕ → ℕ → Bool
same a p q = eqb a.0 p && eqb a.1 q

-- only the pair of p and q passes the test, and it does
pub same_itself : (p q : ℕ) → same (p, q) p q ≡ true
same_itself p q = and_from (eqb p p) (eqb q q) (eq-eqb p p refl) (eq-eqb q q refl)

pub same_is : (a : ℕ × ℕ) (p q : ℕ) → same a p q ≡ true → a ≡ (p, q)
same_is a p q h =
    let both = and_parts (eqb a.0 p) (eqb a.1 q) h in
    ap (λ (x : ℕ). (x, a.1)) (eqb-true a.0 p both.0) ∙ ap (λ (y : ℕ). (p, y)) (eqb-true a.1 q both.1)

-- the place in a list whose first pair is this one, and in a list whose first pair is another
pub place_here : (a : ℕ × ℕ) (rest : List (ℕ × ℕ)) (p q : ℕ) → same a p q ≡ true → place_of (a ∷ rest) p q ≡ 0
place_here a rest p q e = cond-true (same a p q) 0 (suc (place_of rest p q)) e

pub place_next : (a : ℕ × ℕ) (rest : List (ℕ × ℕ)) (p q : ℕ) → same a p q ≡ false → place_of (a ∷ rest) p q ≡ suc (place_of rest p q)
place_next a rest p q e = cond-false (same a p q) 0 (suc (place_of rest p q)) e

pub place-le : (ps : List (ℕ × ℕ)) (p q : ℕ) → place_of ps p q ≤ length ps
place-le [] p q = omega arith
place-le (a ∷ rest) p q = elim (cases_Bool (same a p q)) [
  | inl e ↦ omega (arith, place_here a rest p q e)
  | inr e ↦ omega (arith, place_next a rest p q e, place-le rest p q)
]

-- at the place of a pair stands the pair
pub place_at : (ps : List (ℕ × ℕ)) (p q : ℕ) (d : ℕ × ℕ) → place_of ps p q < length ps → get_or ps (place_of ps p q) d ≡ (p, q)
place_at [] p q d h = absurd (omega arith)
place_at (a ∷ rest) p q d h = elim (cases_Bool (same a p q)) [
  | inl e ↦ ap (λ (k : ℕ). get_or (a ∷ rest) k d) (place_here a rest p q e) ∙ same_is a p q e
  | inr e ↦
      (let next : place_of (a ∷ rest) p q ≡ suc (place_of rest p q) = place_next a rest p q e in
      ap (λ (k : ℕ). get_or (a ∷ rest) k d) next ∙ place_at rest p q d (omega arith))
]

-- the place in two lists, one behind the other: that in the first, or, if it is not there, that in the second
pub place-append_left : (xs ys : List (ℕ × ℕ)) (p q : ℕ) → place_of xs p q < length xs → place_of (xs ++ ys) p q ≡ place_of xs p q
place-append_left [] ys p q h = absurd (omega arith)
place-append_left (a ∷ rest) ys p q h = elim (cases_Bool (same a p q)) [
  | inl e ↦ place_here a (rest ++ ys) p q e ∙ sym (place_here a rest p q e)
  | inr e ↦
      (let next : place_of (a ∷ rest) p q ≡ suc (place_of rest p q) = place_next a rest p q e in
      place_next a (rest ++ ys) p q e ∙ ap (λ (k : ℕ). suc k) (place-append_left rest ys p q (omega arith)) ∙ sym next)
]

pub place-append_right : (xs ys : List (ℕ × ℕ)) (p q : ℕ) → place_of xs p q ≡ length xs → place_of (xs ++ ys) p q ≡ length xs + place_of ys p q
place-append_right [] ys p q h = omega arith
place-append_right (a ∷ rest) ys p q h = elim (cases_Bool (same a p q)) [
  | inl e ↦ absurd (omega (arith, place_here a rest p q e))
  | inr e ↦
      (let next : place_of (a ∷ rest) p q ≡ suc (place_of rest p q) = place_next a rest p q e in
      omega (arith, place_next a (rest ++ ys) p q e, place-append_right rest ys p q (omega arith)))
]

-- ---- a fact of each pair, and pairs that all differ

-- a fact of all pairs of a list is one of the pair at an index, and one of two such lists together
pub every : (P : ℕ × ℕ → Type 0) (xs : List (ℕ × ℕ)) (k : ℕ) (d : ℕ × ℕ) → AllByRecursion P xs → k < length xs → P (get_or xs k d)
every P [] k d all h = absurd (omega arith)
every P (x ∷ xs) zero d all h = all.0
every P (x ∷ xs) (suc k) d all h = every P xs k d all.1 (omega arith)

pub all-append : (P : ℕ × ℕ → Type 0) (xs ys : List (ℕ × ℕ)) → AllByRecursion P xs → AllByRecursion P ys → AllByRecursion P (xs ++ ys)
all-append P [] ys h k = k
all-append P (x ∷ xs) ys h k = (h.0, all-append P xs ys h.1 k)

-- no pair of the list stands twice
abbrev pub AreApart : List (ℕ × ℕ) → Type 0
AreApart [] = Unit {0}
AreApart (a ∷ rest) = AllByRecursion (λ b. same a b.0 b.1 ≡ false) rest × AreApart rest

-- in a list whose pairs all differ, the place of the pair at an index is the index
pub once : (ps : List (ℕ × ℕ)) (k : ℕ) (d : ℕ × ℕ) → AreApart ps → k < length ps → place_of ps (get_or ps k d).0 (get_or ps k d).1 ≡ k
once [] k d apart h = absurd (omega arith)
once (a ∷ rest) zero d apart h = place_here a rest a.0 a.1 (same_itself a.0 a.1)
once (a ∷ rest) (suc k) d apart h =
    place_next a rest (get_or rest k d).0 (get_or rest k d).1 (every (λ b. same a b.0 b.1 ≡ false) rest k d apart.0 (omega arith))
    ∙ ap (λ (n : ℕ). suc n) (once rest k d apart.1 (omega arith))

apart-append : (xs ys : List (ℕ × ℕ)) → AreApart xs → AreApart ys → AllByRecursion (λ x. AllByRecursion (λ y. same x y.0 y.1 ≡ false) ys) xs → AreApart (xs ++ ys)
apart-append [] ys a b h = b
apart-append (x ∷ xs) ys a b h = (all-append (λ y. same x y.0 y.1 ≡ false) xs ys a.0 h.0, apart-append xs ys a.1 b h.1)

-- ---- the pairs of x with the numbers from b on, m of them, that pass a test

abbrev pub seconds : ℕ → (ℕ → Bool) → ℕ → ℕ → List (ℕ × ℕ)
seconds x test b m = map (λ q. (x, q)) (filter test (range_with_len b m))

-- a fact of x with each number that passes the test is a fact of all these pairs
pub all-seconds : (P : ℕ × ℕ → Type 0) (x : ℕ) (test : ℕ → Bool) (b m : ℕ) → ((q : ℕ) → b ≤ q → q < b + m → test q ≡ true → P (x, q)) → AllByRecursion P (seconds x test b m)
all-seconds P x test b zero f = tt
all-seconds P x test b (suc m) f =
    let rest : AllByRecursion P (seconds x test (b + 1) m) = all-seconds P x test (b + 1) m (λ q h k e. f q (omega arith) (omega arith) e) in
    elim (cases_Bool (test b)) [
      | inl e ↦ rw e (f b (omega arith) (omega arith) e, rest)
      | inr e ↦ rw e rest
    ]

-- the first number is taken where it passes the test, and left out where it does not
pub seconds-yes : (x : ℕ) (test : ℕ → Bool) (b m : ℕ) → test b ≡ true → seconds x test b (suc m) ≡ (x, b) ∷ seconds x test (b + 1) m
seconds-yes x test b m e =
    ap (map (λ (q : ℕ). (x, q))) (cond-true (test b) (b ∷ filter test (range_with_len (b + 1) m)) (filter test (range_with_len (b + 1) m)) e)

pub seconds-no : (x : ℕ) (test : ℕ → Bool) (b m : ℕ) → test b ≡ false → seconds x test b (suc m) ≡ seconds x test (b + 1) m
seconds-no x test b m e =
    ap (map (λ (q : ℕ). (x, q))) (cond-false (test b) (b ∷ filter test (range_with_len (b + 1) m)) (filter test (range_with_len (b + 1) m)) e)

-- none below n where none passes the test, and one number more
pub seconds-none : (x : ℕ) (test : ℕ → Bool) (b m : ℕ) → ((q : ℕ) → b ≤ q → q < b + m → test q ≡ false) → seconds x test b m ≡ []
seconds-none x test b zero f = refl
seconds-none x test b (suc m) f = seconds-no x test b m (f b (omega arith) (omega arith)) ∙ seconds-none x test (b + 1) m (λ q h k. f q (omega arith) (omega arith))

-- the pair where the test passed, and nothing where it did not
abbrev pub one_if : Bool → ℕ × ℕ → List (ℕ × ℕ)
one_if true a = a ∷ []
one_if false a = []

seconds_more : (x : ℕ) (test : ℕ → Bool) (b m j : ℕ) → b + m ≡ j → seconds x test b (suc m) ≡ seconds x test b m ++ one_if (test j) (x, j)
seconds_more x test b zero j e = elim (cases_Bool (test j)) [
  | inl t ↦ rw t (subst (λ (i : ℕ). seconds x test i 1 ≡ (x, j) ∷ []) (let s : j ≡ b = omega arith in s) (seconds-yes x test j 0 t))
  | inr t ↦ rw t (subst (λ (i : ℕ). seconds x test i 1 ≡ []) (let s : j ≡ b = omega arith in s) (seconds-no x test j 0 t))
]
seconds_more x test b (suc m) j e =
    let rest : seconds x test (b + 1) (suc m) ≡ seconds x test (b + 1) m ++ one_if (test j) (x, j) = seconds_more x test (b + 1) m j (omega arith) in
    elim (cases_Bool (test b)) [
      | inl t ↦ seconds-yes x test b (suc m) t ∙ ap (λ (ps : List (ℕ × ℕ)). (x, b) ∷ ps) rest ∙ ap (λ (ps : List (ℕ × ℕ)). ps ++ one_if (test j) (x, j)) (sym (seconds-yes x test b m t))
      | inr t ↦ seconds-no x test b (suc m) t ∙ rest ∙ ap (λ (ps : List (ℕ × ℕ)). ps ++ one_if (test j) (x, j)) (sym (seconds-no x test b m t))
    ]

-- one number more: its pair stands at the end where it passes the test, and nothing changes where it does not
pub seconds-kept : (xs : List (ℕ × ℕ)) (x : ℕ) (test : ℕ → Bool) (n : ℕ) → test n ≡ true →
    (xs ++ seconds x test 0 n) ++ (x, n) ∷ [] ≡ xs ++ seconds x test 0 (n + 1)
seconds-kept xs x test n e =
    append_assoc xs (seconds x test 0 n) ((x, n) ∷ [])
    ∙ ap (λ (ps : List (ℕ × ℕ)). xs ++ ps)
    (ap (λ (t : Bool). seconds x test 0 n ++ one_if t (x, n)) (sym e) ∙ sym (seconds_more x test 0 n n (omega arith)) ∙ ap (seconds x test 0) (suc_is n))

pub seconds-passed : (x : ℕ) (test : ℕ → Bool) (n : ℕ) → test n ≡ false → seconds x test 0 (n + 1) ≡ seconds x test 0 n
seconds-passed x test n e =
    ap (seconds x test 0) (sym (suc_is n)) ∙ seconds_more x test 0 n n (omega arith)
    ∙ ap (λ (t : Bool). seconds x test 0 n ++ one_if t (x, n)) e ∙ append-nil (seconds x test 0 n)

apart-seconds : (x : ℕ) (test : ℕ → Bool) (b m : ℕ) → AreApart (seconds x test b m)
apart-seconds x test b zero = tt
apart-seconds x test b (suc m) = elim (cases_Bool (test b)) [
  | inl e ↦ subst AreApart (sym (seconds-yes x test b m e)) (all-seconds (λ a. same (x, b) a.0 a.1 ≡ false) x test (b + 1) m (λ q h k t. and_right (eqb x x) (eqb b q) (ne_eqb b q (λ s. omega arith))), apart-seconds x test (b + 1) m)
  | inr e ↦ subst AreApart (sym (seconds-no x test b m e)) (apart-seconds x test (b + 1) m)
]

-- ---- where a pair stands

-- the pair of p and q is in the list
abbrev pub IsIn : List (ℕ × ℕ) → ℕ → ℕ → Type 0
IsIn ps p q = place_of ps p q < length ps

in-here : (rest : List (ℕ × ℕ)) (p q : ℕ) → IsIn ((p, q) ∷ rest) p q
in-here rest p q = omega (arith, place_here (p, q) rest p q (same_itself p q))

in-next : (a : ℕ × ℕ) (rest : List (ℕ × ℕ)) (p q : ℕ) → IsIn rest p q → IsIn (a ∷ rest) p q
in-next a rest p q h = elim (cases_Bool (same a p q)) [
  | inl e ↦ omega (arith, place_here a rest p q e)
  | inr e ↦ omega (arith, place_next a rest p q e)
]

-- a pair that is in one of two lists is in both, one behind the other
pub in-append_left : (xs ys : List (ℕ × ℕ)) (p q : ℕ) → IsIn xs p q → IsIn (xs ++ ys) p q
in-append_left xs ys p q h = omega (arith, place-append_left xs ys p q h, length-append xs ys)

pub in-append_right : (xs ys : List (ℕ × ℕ)) (p q : ℕ) → IsIn ys p q → IsIn (xs ++ ys) p q
in-append_right [] ys p q h = h
in-append_right (a ∷ rest) ys p q h = in-next a (rest ++ ys) p q (in-append_right rest ys p q h)

in-seconds : (x : ℕ) (test : ℕ → Bool) (b m q : ℕ) → b ≤ q → q < b + m → test q ≡ true → IsIn (seconds x test b m) x q
in-seconds x test b zero q h k e = absurd (omega arith)
in-seconds x test b (suc m) q h k e = elim (cases_Bool (test b)) [
  | inl t ↦
      (let P : List (ℕ × ℕ) → Type 0 = λ ps. IsIn ps x q in
      elim (cases_eq b q) [
        | inl here ↦ subst P (sym (seconds-yes x test b m t)) (subst (λ (v : ℕ). IsIn ((x, v) ∷ seconds x test (b + 1) m) x q) (sym here) (in-here (seconds x test (b + 1) m) x q))
        | inr other ↦ subst P (sym (seconds-yes x test b m t)) (in-next (x, b) (seconds x test (b + 1) m) x q (in-seconds x test (b + 1) m q (omega arith) (omega arith) e))
      ])
  | inr t ↦
      (let P : List (ℕ × ℕ) → Type 0 = λ ps. IsIn ps x q in
      let other : b ≡ q → ⊥ = λ s. true≢false (sym e ∙ ap test (sym s) ∙ t) in
      subst P (sym (seconds-no x test b m t)) (in-seconds x test (b + 1) m q (omega arith) (omega arith) e))
]

-- ---- the pairs of each x from a on, n of them, with its seconds below m

abbrev pub all_seconds : (ℕ → ℕ → Bool) → ℕ → ℕ → ℕ → List (ℕ × ℕ)
all_seconds test m a n = flat_map (λ x. seconds x (test x) 0 m) (range_with_len a n)

-- a fact of each two numbers that pass the test is a fact of all these pairs
pub all-firsts : (P : ℕ × ℕ → Type 0) (test : ℕ → ℕ → Bool) (m a n : ℕ) → ((x q : ℕ) → a ≤ x → x < a + n → q < m → test x q ≡ true → P (x, q)) →
    AllByRecursion P (all_seconds test m a n)
all-firsts P test m a zero f = tt
all-firsts P test m a (suc n) f =
    all-append P (seconds a (test a) 0 m) (all_seconds test m (a + 1) n)
    (all-seconds P a (test a) 0 m (λ q h k e. f a q (omega arith) (omega arith) (omega arith) e))
    (all-firsts P test m (a + 1) n (λ x q h k l e. f x q (omega arith) (omega arith) l e))

-- all these pairs differ
pub apart-firsts : (test : ℕ → ℕ → Bool) (m a n : ℕ) → AreApart (all_seconds test m a n)
apart-firsts test m a zero = tt
apart-firsts test m a (suc n) =
    apart-append (seconds a (test a) 0 m) (all_seconds test m (a + 1) n) (apart-seconds a (test a) 0 m) (apart-firsts test m (a + 1) n)
    (all-seconds (λ x. AllByRecursion (λ y. same x y.0 y.1 ≡ false) (all_seconds test m (a + 1) n)) a (test a) 0 m
    (λ q h k e. all-firsts (λ y. same (a, q) y.0 y.1 ≡ false) test m (a + 1) n (λ x r i j l t. and_left (eqb a x) (eqb q r) (ne_eqb a x (λ s. omega arith)))))

-- each two numbers in range that pass the test are among these pairs
pub in-firsts : (test : ℕ → ℕ → Bool) (m a n p q : ℕ) → a ≤ p → p < a + n → q < m → test p q ≡ true → IsIn (all_seconds test m a n) p q
in-firsts test m a zero p q h k l e = absurd (omega arith)
in-firsts test m a (suc n) p q h k l e = elim (cases_eq a p) [
  | inl here ↦
      in-append_left (seconds a (test a) 0 m) (all_seconds test m (a + 1) n) p q
      (subst (λ (x : ℕ). IsIn (seconds x (test x) 0 m) p q) (sym here) (in-seconds p (test p) 0 m q (omega arith) (omega arith) e))
  | inr other ↦
      in-append_right (seconds a (test a) 0 m) (all_seconds test m (a + 1) n) p q (in-firsts test m (a + 1) n p q (omega arith) (omega arith) l e)
]

firsts_next : (test : ℕ → ℕ → Bool) (m a n j : ℕ) → a + n ≡ j → all_seconds test m a n ++ seconds j (test j) 0 m ≡ all_seconds test m a (suc n)
firsts_next test m a zero j e =
    ap (λ (i : ℕ). seconds i (test i) 0 m) (let same : j ≡ a = omega arith in same) ∙ sym (append-nil (seconds a (test a) 0 m))
firsts_next test m a (suc n) j e =
    append_assoc (seconds a (test a) 0 m) (all_seconds test m (a + 1) n) (seconds j (test j) 0 m)
    ∙ ap (λ (ps : List (ℕ × ℕ)). seconds a (test a) 0 m ++ ps) (firsts_next test m (a + 1) n j (omega arith))

-- one first number more, with its seconds
pub firsts_more : (test : ℕ → ℕ → Bool) (m n : ℕ) → all_seconds test m 0 n ++ seconds n (test n) 0 m ≡ all_seconds test m 0 (n + 1)
firsts_more test m n = firsts_next test m 0 n n (omega arith) ∙ ap (all_seconds test m 0) (suc_is n)
