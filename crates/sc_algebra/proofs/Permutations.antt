-- Permutations of the numbers below a bound: onto, reindexing, involutions.
use Rattle.std.specs.Prelude.{◌≡◌, ◌≢◌, ◌⊎◌, ℕ, zero, suc, ◌*◌, ◌<◌, Bool, cond, not, if◌then◌else◌, ◌==◌, nat_lt, ℤ, pos, ◌*ℤ◌, neg_ℤ}
use Rattle.std.proofs.Common.{arith, sym, ap, ◌∙◌, inl, inr, eq-eqb, ne_eqb, lt-ltb, le-ltb}
use Rattle.std.proofs.lemmas.Bool.{cases_eq, cases_lt}
use Rattle.std.specs.Fn.{iterate}
use Rattle.sc_algebra.specs.Sums.{sum_below, count_below}
use Rattle.sc_algebra.specs.Permutations.{IsPermutation}
use Rattle.sc_algebra.proofs.Ints.{one-mul, same-pos, zero_from_neg}
use Rattle.sc_algebra.proofs.Sums.{sum-congr, sum-neg, sum_by_value, count-congr, count-not, count-sum, count_one}

-- ---- a permutation with its greatest number left out
-- t with m left out: what led to m leads on to where m leads
abbrev pub skip : ℕ → (ℕ → ℕ) → ℕ → ℕ
skip m t s = cond (t s == m) (t m) (t s)

-- what led to m leads on, and anything else goes where it went
pub skip_at : (m : ℕ) (t : ℕ → ℕ) (s : ℕ) → t s ≡ m → skip m t s ≡ t m
skip_at m t s e = rw (eq-eqb (t s) m e)

pub skip_off : (m : ℕ) (t : ℕ → ℕ) (s : ℕ) → t s ≢ m → skip m t s ≡ t s
skip_off m t s d = rw (ne_eqb (t s) m d)

skip_into : (m : ℕ) (t : ℕ → ℕ) → IsPermutation t (suc m) → (s : ℕ) → s < m → skip m t s < m
skip_into m t h s l =
    elim (cases_eq (t s) m) [
      | inl e ↦ rw (skip_at m t s e) (at_m (λ d. omega (arith, h.apart s m (omega arith) (omega arith) (e ∙ sym d))))
      | inr d ↦ rw (skip_off m t s d) (omega (arith, h.into s (omega arith)))
    ]
  where
    at_m : t m ≢ m → t m < m
    at_m d = omega (arith, h.into m (omega arith))

skip_apart : (m : ℕ) (t : ℕ → ℕ) → IsPermutation t (suc m) → (s u : ℕ) → s < m → u < m → skip m t s ≡ skip m t u → s ≡ u
skip_apart m t h s u l k e =
    elim (cases_eq (t s) m) [
      | inl a ↦ elim (cases_eq (t u) m) [
        | inl b ↦ h.apart s u (omega arith) (omega arith) (a ∙ sym b)
        | inr b ↦ absurd (omega (arith, h.apart m u (omega arith) (omega arith) (sym (skip_at m t s a) ∙ e ∙ skip_off m t u b)))
      ]
      | inr a ↦ elim (cases_eq (t u) m) [
        | inl b ↦ absurd (omega (arith, h.apart s m (omega arith) (omega arith) (sym (skip_off m t s a) ∙ e ∙ skip_at m t u b)))
        | inr b ↦ h.apart s u (omega arith) (omega arith) (sym (skip_off m t s a) ∙ e ∙ skip_off m t u b)
      ]
    ]

-- a permutation of the numbers below m + 1, with m left out, is one of those below m
pub IsPermutation-skip : (m : ℕ) (t : ℕ → ℕ) → IsPermutation t (suc m) → IsPermutation (skip m t) m
IsPermutation-skip m t h = record { into = skip_into m t h; apart = skip_apart m t h }

-- ---- each number below the bound is met
-- where `t` with m left out comes to v, t comes to v, or to m and m to v
onto_from_skip : (m : ℕ) (t : ℕ → ℕ) → IsPermutation t (suc m) → (u : ℕ) → u < suc m → ((v : ℕ) → v < m → (s : ℕ) × (s < m) × (skip m t s ≡ v)) → (s : ℕ) × (s < suc m) × (t s ≡ u)
onto_from_skip m t h u l found =
    elim (cases_eq (t m) u) [
      | inl e ↦ (m, omega arith, e)
      | inr d ↦ elim (cases_eq u m) [
        | inl at ↦ at_m at (found (t m) (omega (arith, h.into m (omega arith), at)))
        | inr off ↦ off_m d (found u (omega arith))
      ]
    ]
  where
    at_m : u ≡ m → (s : ℕ) × (s < m) × (skip m t s ≡ t m) → (s : ℕ) × (s < suc m) × (t s ≡ u)
    at_m at (s, p, e) =
        elim (cases_eq (t s) m) [
          | inl a ↦ (s, omega arith, a ∙ sym at)
          | inr b ↦ absurd (omega (arith, h.apart s m (omega arith) (omega arith) (sym (skip_off m t s b) ∙ e)))
        ]

    off_m : t m ≢ u → (s : ℕ) × (s < m) × (skip m t s ≡ u) → (s : ℕ) × (s < suc m) × (t s ≡ u)
    off_m d (s, p, e) =
        elim (cases_eq (t s) m) [
          | inl a ↦ absurd (d (sym (skip_at m t s a) ∙ e))
          | inr b ↦ (s, omega arith, sym (skip_off m t s b) ∙ e)
        ]

-- a permutation comes to each number below the bound
pub onto : {t : ℕ → ℕ} {n : ℕ} → IsPermutation t n → (u : ℕ) → u < n → (s : ℕ) × (s < n) × (t s ≡ u)
onto {t} {n} h u l = onto_below n t h u l
  where
    onto_below : (n : ℕ) (t : ℕ → ℕ) → IsPermutation t n → (u : ℕ) → u < n → (s : ℕ) × (s < n) × (t s ≡ u)
    onto_below zero t h u l = absurd (omega arith)
    onto_below (suc m) t h u l = onto_from_skip m t h u l (onto_below m (skip m t) (IsPermutation-skip m t h))

-- ---- reindexing
-- exactly one number below n is taken to i
pub count_source : (t : ℕ → ℕ) (n i : ℕ) → IsPermutation t n → i < n → count_below (λ s. t s == i) n ≡ 1
count_source t n i h l = at_source (onto h i l)
  where
    at_source : (s : ℕ) × (s < n) × (t s ≡ i) → count_below (λ s. t s == i) n ≡ 1
    at_source (s, p, e) =
        count-congr (λ k. t k == i) (λ k. k == s) n (λ k q. same_test k q (cases_eq k s))
        ∙ count_one n s p
      where
        same_test : (k : ℕ) → k < n → (k ≡ s) ⊎ (k ≡ s → ⊥) → (t k == i) ≡ (k == s)
        same_test k q (inl a) = eq-eqb (t k) i (ap t a ∙ e) ∙ sym (eq-eqb k s a)
        same_test k q (inr b) = ne_eqb (t k) i (λ c. b (h.apart k s q p (c ∙ sym e))) ∙ sym (ne_eqb k s b)

-- a sum over all numbers below n stays the same where a permutation goes first
pub reindex : (t : ℕ → ℕ) (n : ℕ) (f : ℕ → ℤ) → IsPermutation t n → sum_below (λ s. f (t s)) n ≡ sum_below f n
reindex t n f h =
    sym (sum_by_value t f n n h.into)
    ∙ sum-congr (λ i. pos (count_below (λ s. t s == i) n) *ℤ f i) f n
    (λ i l. ap (λ (c : ℕ). pos c *ℤ f i) (count_source t n i h l) ∙ one-mul (f i))

-- and so does a count
pub count-reindex : (t : ℕ → ℕ) (n : ℕ) (p : ℕ → Bool) → IsPermutation t n → count_below (λ s. p (t s)) n ≡ count_below p n
count-reindex t n p h =
    same-pos (count_below (λ s. p (t s)) n) (count_below p n)
    (count-sum (λ s. p (t s)) n ∙ reindex t n (λ s. if p s then pos 1 else pos 0) h ∙ sym (count-sum p n))

-- ---- permutations from permutations
pub IsPermutation-id : (n : ℕ) → IsPermutation (λ s. s) n
IsPermutation-id n = record { into = λ s l. l; apart = λ s u l k e. e }

-- u, then t
pub compose : {t u : ℕ → ℕ} {n : ℕ} → IsPermutation t n → IsPermutation u n → IsPermutation (λ s. t (u s)) n
compose {t} {u} {n} h k = record {
  into = λ s l. h.into (u s) (k.into s l);
  apart = λ s v l m e. k.apart s v l m (h.apart (u s) (u v) (k.into s l) (k.into v m) e);
}

-- k steps of a permutation are a permutation
pub IsPermutation-iterate : {t : ℕ → ℕ} {n : ℕ} → IsPermutation t n → (k : ℕ) → IsPermutation (iterate t k) n
IsPermutation-iterate {t} {n} h zero = IsPermutation-id n
IsPermutation-iterate {t} {n} h (suc k) = compose (IsPermutation-iterate h k) h

-- ---- involutions
-- a map whose second step takes each number below n back is a permutation
pub involution : (m : ℕ → ℕ) (n : ℕ) → ((s : ℕ) → s < n → m s < n) → ((s : ℕ) → s < n → m (m s) ≡ s) → IsPermutation m n
involution m n into back = record {
  into = into;
  apart = λ s u l k e. sym (back s l) ∙ ap m e ∙ back u k;
}

-- of the two sides of a pair one is the smaller
other_side : (m : ℕ → ℕ) (s : ℕ) → m (m s) ≡ s → m s ≢ s → nat_lt (m s) (m (m s)) ≡ not (nat_lt s (m s))
other_side m s back moves =
    rw back
    (elim (cases_lt s (m s)) [
      | inl l ↦ le-ltb (m s) s (omega arith) ∙ sym (ap not (lt-ltb s (m s) l))
      | inr l ↦ lt-ltb (m s) s (omega arith) ∙ sym (ap not (le-ltb s (m s) l))
    ])

-- an involution that moves every number makes pairs, and one of each pair is below the other
pub parity : (m : ℕ → ℕ) (n : ℕ) → ((s : ℕ) → s < n → m s < n) → ((s : ℕ) → s < n → m (m s) ≡ s) → ((s : ℕ) → s < n → m s ≢ s) → count_below (λ s. nat_lt s (m s)) n * 2 ≡ n
parity m n into back moves =
    let turned : count_below (λ s. nat_lt (m s) (m (m s))) n ≡ count_below (λ s. nat_lt s (m s)) n = count-reindex m n (λ s. nat_lt s (m s)) (involution m n into back) in
    let other : count_below (λ s. nat_lt (m s) (m (m s))) n ≡ count_below (λ s. not (nat_lt s (m s))) n = count-congr (λ s. nat_lt (m s) (m (m s))) (λ s. not (nat_lt s (m s))) n (λ s l. other_side m s (back s l) (moves s l)) in
    omega (arith, turned, other, count-not (λ s. nat_lt s (m s)) n)

-- over pairs of a number and its negative the sum is 0
pub antisymmetric-cancel : (m : ℕ → ℕ) (n : ℕ) (y : ℕ → ℤ) → ((s : ℕ) → s < n → m s < n) → ((s : ℕ) → s < n → m (m s) ≡ s) → ((s : ℕ) → s < n → y (m s) ≡ neg_ℤ (y s)) → sum_below y n ≡ pos 0
antisymmetric-cancel m n y into back turns =
    zero_from_neg (sum_below y n)
    (sym (reindex m n y (involution m n into back)) ∙ sum-congr (λ s. y (m s)) (λ s. neg_ℤ (y s)) n turns ∙ sum-neg y n)
