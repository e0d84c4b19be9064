-- The orbits of a permutation: its periods, their least numbers, and what a function sums to along them.
use Rattle.std.specs.Prelude.{◌≡◌, ◌≢◌, ◌⊎◌, ℕ, zero, suc, ◌+◌, ◌-◌, ◌*◌, ◌/◌, ◌%◌, ◌<◌, ◌≤◌, Bool, cond, IsTrue, ◌==◌, nat_le, if◌then◌else◌, ℤ, pos, ◌+ℤ◌, ◌*ℤ◌, ◌≤ℤ◌}
use Rattle.std.proofs.Common.{arith, refl, sym, ap, ◌∙◌, inl, inr, eq-eqb, ne_eqb, add-suc, add-zero, suc-mul, div-add-mod', mod-lt}
use Rattle.std.proofs.lemmas.Int.{ints}
use Rattle.std.proofs.lemmas.Bool.{cases_eq, and_parts, and_from, leb-true, le-leb, false_from_ne_true}
use Rattle.std.specs.Fn.{iterate}
use Rattle.sc_algebra.specs.Sums.{sum_below, count_below}
use Rattle.sc_algebra.specs.Permutations.{IsPermutation, is_least_for, sum_along}
use Rattle.sc_algebra.proofs.Sums.{sum-add, sum-single}
use Rattle.sc_algebra.proofs.Permutations.{skip, skip_at, skip_off, IsPermutation-skip, IsPermutation-iterate, onto}

-- ---- iterates
-- a + b steps are b steps and then a more
pub iterate-add : (t : ℕ → ℕ) (a b s : ℕ) → iterate t (a + b) s ≡ iterate t a (iterate t b s)
iterate-add t a zero s = rw (add-zero a)
iterate-add t a (suc b) s = rw (add-suc a b) (iterate-add t a b (t s))

-- k + 1 steps are k steps and then one
pub iterate-last : (t : ℕ → ℕ) (k s : ℕ) → iterate t (suc k) s ≡ t (iterate t k s)
iterate-last t zero s = refl
iterate-last t (suc k) s = iterate-last t k (t s)

-- what returns after p steps returns after each multiple of p
pub iterate_multiple : (t : ℕ → ℕ) (p s : ℕ) → iterate t p s ≡ s → (q : ℕ) → iterate t (q * p) s ≡ s
iterate_multiple t p s e zero = rw (zero_times p)
  where
    zero_times : (p : ℕ) → 0 * p ≡ 0
    zero_times p = omega arith
iterate_multiple t p s e (suc q) =
    rw (suc-mul q p) (iterate-add t (q * p) p s ∙ ap (iterate t (q * p)) e ∙ iterate_multiple t p s e q)

-- ---- the period
-- a place below n where f is v, or none
search_value : (f : ℕ → ℕ) (v n : ℕ) → ((i : ℕ) × (i < n) × (f i ≡ v)) ⊎ ((i : ℕ) → i < n → f i ≢ v)
search_value f v zero = inr (λ i l e. omega arith)
search_value f v (suc n) =
    elim (cases_eq (f n) v) [
      | inl e ↦ inl (n, omega arith, e)
      | inr d ↦ elim (search_value f v n) [
        | inl found ↦ inl (found.0, omega (arith, found.1), found.2)
        | inr none ↦ inr (λ i l e. below_or_at none d i l e (cases_eq i n))
      ]
    ]
  where
    below_or_at : ((i : ℕ) → i < n → f i ≢ v) → f n ≢ v → (i : ℕ) → i < suc n → f i ≡ v → (i ≡ n) ⊎ (i ≡ n → ⊥) → ⊥
    below_or_at none d i l e (inl at) = d (ap f (sym at) ∙ e)
    below_or_at none d i l e (inr off) = none i (omega arith) e

-- of n + 1 numbers below n two are the same
pub pigeonhole : (n : ℕ) (f : ℕ → ℕ) → ((i : ℕ) → i < suc n → f i < n) → (i : ℕ) × (j : ℕ) × (i < j) × (j < suc n) × (f i ≡ f j)
pigeonhole zero f h = absurd (omega (arith, h 0 (omega arith)))
pigeonhole (suc m) f h =
    elim (search_value f (f (suc m)) (suc m)) [
      | inl found ↦ (found.0, suc m, found.1, omega arith, found.2)
      | inr none ↦ back none (pigeonhole m (λ i. cond (f i == m) (f (suc m)) (f i)) (smaller none))
    ]
  where
    smaller : ((i : ℕ) → i < suc m → f i ≢ f (suc m)) → (i : ℕ) → i < suc m → cond (f i == m) (f (suc m)) (f i) < m
    smaller none i l =
        elim (cases_eq (f i) m) [
          | inl e ↦ rw (eq-eqb (f i) m e) (omega (arith, h (suc m) (omega arith), none i l))
          | inr d ↦ rw (ne_eqb (f i) m d) (omega (arith, h i (omega arith)))
        ]

    back : ((i : ℕ) → i < suc m → f i ≢ f (suc m)) → (i : ℕ) × (j : ℕ) × (i < j) × (j < suc m) × (cond (f i == m) (f (suc m)) (f i) ≡ cond (f j == m) (f (suc m)) (f j)) → (i : ℕ) × (j : ℕ) × (i < j) × (j < suc (suc m)) × (f i ≡ f j)
    back none (i, j, l, k, e) = (i, j, l, omega arith, same (cases_eq (f i) m) (cases_eq (f j) m))
      where
        same : (f i ≡ m) ⊎ (f i ≡ m → ⊥) → (f j ≡ m) ⊎ (f j ≡ m → ⊥) → f i ≡ f j
        same (inl a) (inl b) = a ∙ sym b
        same (inl a) (inr b) = absurd (none j k (sym (rw (eq-eqb (f i) m a, ne_eqb (f j) m b) at e)))
        same (inr a) (inl b) = absurd (none i (omega arith) (rw (ne_eqb (f i) m a, eq-eqb (f j) m b) at e))
        same (inr a) (inr b) = rw (ne_eqb (f i) m a, ne_eqb (f j) m b) at e

-- a permutation brings each number below n back to itself within n steps
pub period : {t : ℕ → ℕ} {n : ℕ} → IsPermutation t n → (s : ℕ) → s < n → (k : ℕ) × (k < n) × (iterate t (suc k) s ≡ s)
period {t} {n} h s l = from_pair (pigeonhole n (λ i. iterate t i s) (λ i p. (IsPermutation-iterate h i).into s l))
  where
    from_pair : (i : ℕ) × (j : ℕ) × (i < j) × (j < suc n) × (iterate t i s ≡ iterate t j s) → (k : ℕ) × (k < n) × (iterate t (suc k) s ≡ s)
    from_pair (i, j, p, q, e) =
        let k : ℕ = j - suc i in
        let split : j ≡ i + suc k = omega arith in
        let same : iterate t i s ≡ iterate t i (iterate t (suc k) s) = e ∙ ap (λ (x : ℕ). iterate t x s) split ∙ iterate-add t i (suc k) s in
        (k, omega arith, sym ((IsPermutation-iterate h i).apart s (iterate t (suc k) s) l ((IsPermutation-iterate h (suc k)).into s l) same))

-- ---- the least number of an orbit
least_below : (t : ℕ → ℕ) (n s : ℕ) → IsTrue (is_least_for t n s) → (k : ℕ) → k < n → s ≤ iterate t k s
least_below t zero s e k l = absurd (omega arith)
least_below t (suc n) s e k l =
    elim (cases_eq k n) [
      | inl at ↦ rw at (leb-true s (iterate t n s) (and_parts (is_least_for t n s) (nat_le s (iterate t n s)) e).1)
      | inr off ↦ least_below t n s (and_parts (is_least_for t n s) (nat_le s (iterate t n s)) e).0 k (omega arith)
    ]

-- the test below n means no iterate at all
pub least_means_least : {t : ℕ → ℕ} {n : ℕ} → IsPermutation t n → (s : ℕ) → s < n → IsTrue (is_least_for t n s) → (k : ℕ) → s ≤ iterate t k s
least_means_least {t} {n} h s l e k = within (period h s l)
  where
    within : (p : ℕ) × (p < n) × (iterate t (suc p) s ≡ s) → s ≤ iterate t k s
    within (p, q, back) =
        let r : ℕ = k % suc p in
        let small : r < suc p = mod-lt k {m = suc p} (omega arith) in
        let split : k ≡ r + k / suc p * suc p = omega (arith, div-add-mod' k (suc p)) in
        let same : iterate t k s ≡ iterate t r s = ap (λ (x : ℕ). iterate t x s) split ∙ iterate-add t r (k / suc p * suc p) s ∙ ap (iterate t r) (iterate_multiple t (suc p) s back (k / suc p)) in
        rw same (least_below t n s e r (omega arith))

-- a number that is at most each of its iterates passes the test, for any map
pub least_from_all : (t : ℕ → ℕ) (n s : ℕ) → ((k : ℕ) → s ≤ iterate t k s) → IsTrue (is_least_for t n s)
least_from_all t zero s h = refl
least_from_all t (suc n) s h = and_from (is_least_for t n s) (nat_le s (iterate t n s)) (least_from_all t n s h) (le-leb s (iterate t n s) (h n))

-- ---- the sum along an orbit
-- f with the cost of m added where t leads to m, so that t with m left out costs the same
abbrev pub charge : ℕ → (ℕ → ℕ) → (ℕ → ℤ) → ℕ → ℤ
charge m t f s = f s +ℤ (if t s == m then f m else pos 0)

charge_at : (m : ℕ) (t : ℕ → ℕ) (f : ℕ → ℤ) (s : ℕ) → t s ≡ m → charge m t f s ≡ f s +ℤ f m
charge_at m t f s e = rw (eq-eqb (t s) m e)

charge_off : (m : ℕ) (t : ℕ → ℕ) (f : ℕ → ℤ) (s : ℕ) → t s ≢ m → charge m t f s ≡ f s
charge_off m t f s d = rw (ne_eqb (t s) m d) (omega (arith, ints))

-- a walk of t with m left out is a walk of t, at least as long and with the same sum
abbrev Follows : ℕ → (ℕ → ℕ) → (ℕ → ℤ) → ℕ → ℕ → Type 0
Follows m t f k s = (j : ℕ) × (k ≤ j) × (iterate (skip m t) k s ≡ iterate t j s) × (sum_along (charge m t f) (skip m t) k s ≡ sum_along f t j s)

walk_from_skip : (m : ℕ) (t : ℕ → ℕ) (f : ℕ → ℤ) (k s : ℕ) → Follows m t f k s
walk_from_skip m t f zero s = (0, omega arith, refl, refl)
walk_from_skip m t f (suc k) s =
    elim (cases_eq (t s) m) [
      | inl e ↦ through e (walk_from_skip m t f k (t m))
      | inr d ↦ past d (walk_from_skip m t f k (t s))
    ]
  where
    through : t s ≡ m → Follows m t f k (t m) → Follows m t f (suc k) s
    through e (j, p, q, r) =
        (suc (suc j), omega arith, rw (skip_at m t s e, e) q, rw (skip_at m t s e, charge_at m t f s e, e) (omega (arith, ints, r)))

    past : t s ≢ m → Follows m t f k (t s) → Follows m t f (suc k) s
    past d (j, p, q, r) =
        (suc j, omega arith, rw (skip_off m t s d) q, rw (skip_off m t s d, charge_off m t f s d) (omega (arith, ints, r)))

-- an iterate of t is m, or an iterate of t with m left out
walk_to_skip : (m : ℕ) (t : ℕ → ℕ) (k s : ℕ) → (iterate t k s ≡ m) ⊎ ((j : ℕ) × (iterate t k s ≡ iterate (skip m t) j s))
walk_to_skip m t zero s = inr (0, refl)
walk_to_skip m t (suc zero) s =
    elim (cases_eq (t s) m) [ inl e ↦ inl e | inr d ↦ inr (1, sym (skip_off m t s d)) ]
walk_to_skip m t (suc (suc k)) s =
    elim (cases_eq (t s) m) [
      | inl e ↦ elim (walk_to_skip m t k (t m)) [
        | inl at ↦ inl (rw e at)
        | inr found ↦ inr (suc found.0, rw (skip_at m t s e, e) found.1)
      ]
      | inr d ↦ elim (walk_to_skip m t (suc k) (t s)) [
        | inl at ↦ inl at
        | inr found ↦ inr (suc found.0, rw (skip_off m t s d) found.1)
      ]
    ]

-- what is asked of a test, and of what the walks that return cost
abbrev pub Finds : (ℕ → ℕ) → ℕ → (ℕ → Bool) → Type 0
Finds t n p = (s : ℕ) → s < n → IsTrue (p s) → (k : ℕ) → s ≤ iterate t k s

abbrev pub FindsAll : (ℕ → ℕ) → ℕ → (ℕ → Bool) → Type 0
FindsAll t n p = (s : ℕ) → s < n → ((k : ℕ) → s ≤ iterate t k s) → IsTrue (p s)

abbrev pub Costs : (ℕ → ℕ) → ℕ → (ℕ → ℤ) → ℤ → Type 0
Costs t n f d = (s k : ℕ) → s < n → iterate t (suc k) s ≡ s → d ≤ℤ sum_along f t (suc k) s

-- with m left out, the test finds the same
finds-skip : (m : ℕ) (t : ℕ → ℕ) (p : ℕ → Bool) → Finds t (suc m) p → Finds (skip m t) m p
finds-skip m t p h s l e k = by_walk (walk_from_skip m t (λ x. pos 0) k s)
  where
    by_walk : Follows m t (λ x. pos 0) k s → s ≤ iterate (skip m t) k s
    by_walk (j, q, same, r) = rw same (h s (omega arith) e j)

finds_all-skip : (m : ℕ) (t : ℕ → ℕ) (p : ℕ → Bool) → FindsAll t (suc m) p → FindsAll (skip m t) m p
finds_all-skip m t p h s l below = h s (omega arith) (λ k. by_walk k (walk_to_skip m t k s))
  where
    by_walk : (k : ℕ) → (iterate t k s ≡ m) ⊎ ((j : ℕ) × (iterate t k s ≡ iterate (skip m t) j s)) → s ≤ iterate t k s
    by_walk k (inl at) = omega arith
    by_walk k (inr found) = rw found.1 (below found.0)

costs-skip : (m : ℕ) (t : ℕ → ℕ) (f : ℕ → ℤ) (d : ℤ) → Costs t (suc m) f d → Costs (skip m t) m (charge m t f) d
costs-skip m t f d h s k l back = by_walk (walk_from_skip m t f (suc k) s)
  where
    by_walk : Follows m t f (suc k) s → d ≤ℤ sum_along (charge m t f) (skip m t) (suc k) s
    by_walk (zero, q, same, r) = absurd (omega arith)
    by_walk (suc j, q, same, r) = rw r (h s j (omega arith) (sym same ∙ back))

-- what is charged below m is the cost of m, where some number below m is taken to m
charge_sum : (m : ℕ) (t : ℕ → ℕ) (f : ℕ → ℤ) → IsPermutation t (suc m) → t m ≢ m → sum_below (charge m t f) m ≡ sum_below f m +ℤ f m
charge_sum m t f h moves = sum-add f (λ s. if t s == m then f m else pos 0) m ∙ ap (λ (x : ℤ). sum_below f m +ℤ x) (at_source (onto h m (omega arith)))
  where
    at_source : (s : ℕ) × (s < suc m) × (t s ≡ m) → sum_below (λ s. if t s == m then f m else pos 0) m ≡ f m
    at_source (s, l, e) =
        sum-single (λ s. if t s == m then f m else pos 0) m s (below (λ at. moves (ap t (sym at) ∙ e))) (λ k q apart. rw (ne_eqb (t k) m (λ c. apart (h.apart k s (omega arith) l (c ∙ sym e)))))
        ∙ rw (eq-eqb (t s) m e)
      where
        below : s ≢ m → s < m
        below d = omega arith

-- a permutation of the numbers below m + 1 that leaves m alone is one of those below m
drop_last : (m : ℕ) (t : ℕ → ℕ) → IsPermutation t (suc m) → t m ≡ m → IsPermutation t m
drop_last m t h stays = record {
  into = λ s l. omega (arith, h.into s (omega arith), apart_from_m s l);
  apart = λ s u l k e. h.apart s u (omega arith) (omega arith) e;
}
  where
    apart_from_m : (s : ℕ) → s < m → t s ≢ m
    apart_from_m s l e = omega (arith, h.apart s m (omega arith) (omega arith) (e ∙ sym stays))

stays_at : (t : ℕ → ℕ) (m : ℕ) → t m ≡ m → (k : ℕ) → iterate t k m ≡ m
stays_at t m stays zero = refl
stays_at t m stays (suc k) = ap (iterate t k) stays ∙ stays_at t m stays k

-- for any test that finds the least numbers of the orbits
pub orbits_cost : (n : ℕ) (t : ℕ → ℕ) (f : ℕ → ℤ) (d : ℤ) (p : ℕ → Bool) → IsPermutation t n → Finds t n p → FindsAll t n p → Costs t n f d → (d *ℤ pos (count_below p n)) ≤ℤ sum_below f n
orbits_cost zero t f d p h finds all costs = omega (arith, ints)
orbits_cost (suc m) t f d p h finds all costs =
    elim (cases_eq (t m) m) [
      | inl e ↦ alone e (orbits_cost m t f d p (drop_last m t h e) (λ s l. finds s (omega arith)) (λ s l. all s (omega arith)) (λ s k l. costs s k (omega arith)))
      | inr moves ↦ joined moves (orbits_cost m (skip m t) (charge m t f) d p (IsPermutation-skip m t h) (finds-skip m t p finds) (finds_all-skip m t p all) (costs-skip m t f d costs))
    ]
  where
    alone : t m ≡ m → (d *ℤ pos (count_below p m)) ≤ℤ sum_below f m → (d *ℤ pos (count_below p (suc m))) ≤ℤ sum_below f (suc m)
    alone e ih =
        rw (all m (omega arith) (λ k. rw (stays_at t m e k) (omega arith)))
        (omega (arith, ints, ih, costs m 0 (omega arith) e))

    joined : t m ≢ m → (d *ℤ pos (count_below p m)) ≤ℤ sum_below (charge m t f) m → (d *ℤ pos (count_below p (suc m))) ≤ℤ sum_below f (suc m)
    joined moves ih =
        rw (false_from_ne_true (p m) (λ e. omega (arith, moves, finds m (omega arith) e 1, h.into m (omega arith))), add-zero)
        (omega (arith, ints, ih, charge_sum m t f h moves))

-- where each walk that returns costs at least d, all the numbers together cost d for each orbit
pub orbit_bound : (t : ℕ → ℕ) (n : ℕ) (f : ℕ → ℤ) (d : ℤ) → IsPermutation t n → ((s k : ℕ) → s < n → iterate t (suc k) s ≡ s → d ≤ℤ sum_along f t (suc k) s) → (d *ℤ pos (count_below (is_least_for t n) n)) ≤ℤ sum_below f n
orbit_bound t n f d h costs = orbits_cost n t f d (is_least_for t n) h (λ s l e. least_means_least h s l e) (λ s l below. least_from_all t n s below) costs
