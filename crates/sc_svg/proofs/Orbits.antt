-- The sides along an orbit, and its size.
use Rattle.std.proofs.Common.{◌≡◌, ◌≢◌, ℕ, zero, suc, ◌+◌, ◌-◌, ◌<◌, ◌≤◌, ◌==◌, not, Bool, true, false, inl, inr, List, [], ◌∷◌, ◌++◌, length, sym, ◌∙◌, ap, refl, arith}
use Rattle.std.specs.Fn.{iterate}
use Rattle.std.specs.List.{flat_map}
use Rattle.std.proofs.Math.ListN.{get_or-append}
use Rattle.std.proofs.lemmas.Bool.{cases_lt, cases_Bool, and_parts, and_from, eq-eqb, ne_eqb, false≢true}
use Rattle.std.proofs.lemmas.List.{length-append, get_or-append-add}
use Rattle.std.proofs.lemmas.List.Concat.{flat_map-append}
use Rattle.sc_algebra.specs.Sums.{count_below}
use Rattle.sc_algebra.specs.Permutations.{IsPermutation, is_least_for}
use Rattle.sc_algebra.proofs.Sums.{count-all, count-none, count-append}
use Rattle.sc_algebra.proofs.Permutations.{IsPermutation-iterate}
use Rattle.sc_algebra.proofs.Cycles.{iterate-add, iterate-last, period, least_means_least}
use Rattle.sc_shape.specs.Classes.{entry}
use Rattle.sc_shape.specs.Shapes.{list_below}
use Rattle.sc_shape.proofs.ListsBelow.{list_passes, list_fails}
use Rattle.sc_shape.proofs.OrbitLeasts.{orbit_returns, iterate_below}
use Rattle.sc_svg.specs.Layout.{is_apart, orbit_size, sides_along, order_below}

-- ---- different orbits
-- orbits of two least numbers have no number in common
pub orbits_apart : (t : ℕ → ℕ) (n : ℕ) → IsPermutation t n → (q start i j : ℕ) → q < n → start < n → is_least_for t n start ≡ true → q < start → iterate t i q ≢ iterate t j start
orbits_apart t n p q start i j lq ls least before e =
    let back = orbit_returns t n p i q lq in
    let there : iterate t (back.0 + j) start ≡ q = iterate-add t back.0 j start ∙ ap (iterate t back.0) (sym e) ∙ back.1 in
    omega (arith, least_means_least p start ls least (back.0 + j), there, before)

-- ---- one orbit
-- where the test of k steps passes, none of them comes back
pub apart_at : (t : ℕ → ℕ) (k s j : ℕ) → is_apart t k s ≡ true → 0 < j → j ≤ k → iterate t j s ≢ s
apart_at t zero s j a pos_j l e = omega (arith, pos_j, l)
apart_at t (suc k) s j a pos_j l e =
    let both = and_parts (is_apart t k s) (not (iterate t (suc k) s == s)) a in
    elim (cases_lt j (suc k)) [
      | inl b ↦ apart_at t k s j both.0 pos_j (omega (arith, b)) e
      | inr b ↦
          let at : j ≡ suc k = omega (arith, l, b) in
          let same : iterate t (suc k) s ≡ s = ap (λ (m : ℕ). iterate t m s) (sym at) ∙ e in
          let no_more : not (iterate t (suc k) s == s) ≡ false = ap not (eq-eqb (iterate t (suc k) s) s same) in
          false≢true (sym no_more ∙ both.1)
    ]

-- where it passes and the next step doesn't come back, the test of k + 1 steps passes
pub apart_next : (t : ℕ → ℕ) (k s : ℕ) → is_apart t k s ≡ true → t (iterate t k s) ≢ s → is_apart t (suc k) s ≡ true
apart_next t k s a differ =
    let other : iterate t (suc k) s ≢ s = λ e. differ (sym (iterate-last t k s) ∙ e) in
    and_from (is_apart t k s) (not (iterate t (suc k) s == s)) a (ap not (ne_eqb (iterate t (suc k) s) s other))

apart_down : (t : ℕ → ℕ) (i s k : ℕ) → is_apart t i s ≡ true → k ≤ i → is_apart t k s ≡ true
apart_down t zero s k a l = let e : k ≡ 0 = omega (arith, l) in rw e refl
apart_down t (suc i) s k a l =
    elim (cases_lt k (suc i)) [
      | inl b ↦ apart_down t i s k (and_parts (is_apart t i s) (not (iterate t (suc i) s == s)) a).0 (omega (arith, b))
      | inr b ↦ let e : k ≡ suc i = omega (arith, l, b) in rw e a
    ]

-- no two of the iterates are the same
pub iterates_apart : (t : ℕ → ℕ) (n : ℕ) → IsPermutation t n → (s i j : ℕ) → s < n → is_apart t j s ≡ true → i < j → iterate t i s ≢ iterate t j s
iterates_apart t n p s i j l a b e =
    let d : ℕ = j - i in
    let split : j ≡ i + d = omega (arith, b) in
    let same : iterate t i s ≡ iterate t i (iterate t d s) = e ∙ ap (λ (m : ℕ). iterate t m s) split ∙ iterate-add t i d s in
    let home : s ≡ iterate t d s = (IsPermutation-iterate p i).apart s (iterate t d s) l (iterate_below t n p d s l) same in
    apart_at t j s d a (omega (arith, b)) (omega arith) (sym home)

-- fewer steps than there are numbers are made without coming back
pub apart_few : (t : ℕ → ℕ) (n : ℕ) → IsPermutation t n → (s i : ℕ) → s < n → is_apart t i s ≡ true → i < n
apart_few t n p s i l a =
    let r = period p s l in
    elim (cases_lt i n) [
      | inl b ↦ b
      | inr b ↦ absurd (apart_at t i s (suc r.0) a (omega arith) (omega (arith, r.1, b)) r.2)
    ]

count_prefix : (test : ℕ → Bool) (m n : ℕ) → m ≤ n → ((k : ℕ) → k < m → test k ≡ true) → ((k : ℕ) → m ≤ k → test k ≡ false) → count_below test n ≡ m
count_prefix test m n l pass fail =
    let d : ℕ = n - m in
    let split : n ≡ m + d = omega (arith, l) in
    ap (count_below test) split ∙ count-append test m d
    ∙ ap (λ (k : ℕ). count_below test m + k) (count-none (λ k. test (m + k)) d (λ k b. fail (m + k) (omega arith)))
    ∙ omega (arith, count-all test m pass)

-- the orbit is whole where the walk comes back
pub size_is : (t : ℕ → ℕ) (n : ℕ) → IsPermutation t n → (s i : ℕ) → s < n → is_apart t i s ≡ true → t (iterate t i s) ≡ s → orbit_size t n s ≡ suc i
size_is t n p s i l a back =
    let home : iterate t (suc i) s ≡ s = iterate-last t i s ∙ back in
    count_prefix (λ k. is_apart t k s) (suc i) n (omega (arith, apart_few t n p s i l a))
    (λ k b. apart_down t i s k a (omega (arith, b)))
    (λ k b. elim (cases_Bool (is_apart t k s)) [ inl e ↦ absurd (apart_at t k s (suc i) e (omega arith) b home) | inr e ↦ e ])

-- ---- the list of the sides along an orbit
pub length-along : (t : ℕ → ℕ) (k s : ℕ) → length (sides_along t k s) ≡ k
length-along t zero s = refl
length-along t (suc k) s = ap suc (length-along t k (t s))

-- one side more along an orbit is the next iterate, behind the others
pub along_last : (t : ℕ → ℕ) (k s : ℕ) → sides_along t (suc k) s ≡ sides_along t k s ++ iterate t k s ∷ []
along_last t zero s = refl
along_last t (suc k) s = ap (λ (xs : List ℕ). s ∷ xs) (along_last t k (t s))

along_at : (t : ℕ → ℕ) (k s i : ℕ) → i < k → entry (sides_along t k s) i ≡ iterate t i s
along_at t zero s i l = absurd (omega (arith, l))
along_at t (suc k) s zero l = refl
along_at t (suc k) s (suc i) l = along_at t k (t s) i (omega (arith, l))

-- ---- the order
-- a least number has its orbit behind those before, and any other adds nothing
pub order_passes : (t : ℕ → ℕ) (n r : ℕ) → is_least_for t n r ≡ true → order_below t n (suc r) ≡ order_below t n r ++ sides_along t (orbit_size t n r) r
order_passes t n r e =
    let f : ℕ → List ℕ = λ q. sides_along t (orbit_size t n q) q in
    ap (λ (xs : List ℕ). flat_map f xs) (list_passes (is_least_for t n) r e)
    ∙ flat_map-append f (list_below (is_least_for t n) r) (r ∷ [])
    ∙ ap (λ (xs : List ℕ). order_below t n r ++ xs) (append_nil (f r))
  where
    append_nil : (xs : List ℕ) → xs ++ [] ≡ xs
    append_nil [] = refl
    append_nil (x ∷ xs) = ap (λ (ys : List ℕ). x ∷ ys) (append_nil xs)

pub order_fails : (t : ℕ → ℕ) (n r : ℕ) → is_least_for t n r ≡ false → order_below t n (suc r) ≡ order_below t n r
order_fails t n r e = ap (λ (xs : List ℕ). flat_map (λ q. sides_along t (orbit_size t n q) q) xs) (list_fails (is_least_for t n) r e)

-- what stands in the order is below n
pub order_inside : (t : ℕ → ℕ) (n : ℕ) → IsPermutation t n → (r : ℕ) → r ≤ n → (k : ℕ) → k < length (order_below t n r) → entry (order_below t n r) k < n
order_inside t n p zero l k b = absurd (omega (arith, b))
order_inside t n p (suc r) l k b =
    elim (cases_Bool (is_least_for t n r)) [
      | inl e ↦ rw (order_passes t n r e) (joined_inside (order_inside t n p r (omega (arith, l)) k) (rw (order_passes t n r e) at b))
      | inr e ↦ rw (order_fails t n r e) (order_inside t n p r (omega (arith, l)) k (rw (order_fails t n r e) at b))
    ]
  where
    joined_inside : (k < length (order_below t n r) → entry (order_below t n r) k < n) → k < length (order_below t n r ++ sides_along t (orbit_size t n r) r) → entry (order_below t n r ++ sides_along t (orbit_size t n r) r) k < n
    joined_inside before c =
        let old : List ℕ = order_below t n r in
        let new : List ℕ = sides_along t (orbit_size t n r) r in
        elim (cases_lt k (length old)) [
          | inl d ↦ rw (get_or-append old new 0 k d) (before d)
          | inr d ↦
              let i : ℕ = k - length old in
              let split : k ≡ length old + i = omega (arith, d) in
              let few : i < orbit_size t n r = omega (arith, c, split, length-append old new, length-along t (orbit_size t n r) r) in
              rw (split, get_or-append-add old new i 0, along_at t (orbit_size t n r) r i few) (iterate_below t n p i r (omega (arith, l)))
        ]
