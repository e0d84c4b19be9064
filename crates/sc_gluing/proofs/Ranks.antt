-- The numbers that pass a test, in order: each has a rank, the number of lesser ones, and each rank is had once.
use Rattle.std.proofs.Common.{◌≡◌, ℕ, zero, suc, ◌+◌, ◌<◌, Bool, true, false, cond, inl, inr, arith, sym, ap, ◌∙◌}
use Rattle.std.proofs.lemmas.Bool.{cases_Bool, cases_lt, cases_eq, cases_order}
use Rattle.sc_algebra.specs.Sums.{count_below}

-- the number of rank k
pub record Kth (test : ℕ → Bool) (n k : ℕ) : Type 0 where
  pub number : ℕ
  pub inside : number < n
  pub passes : test number ≡ true
  pub rank : count_below test number ≡ k

-- a number that passes is counted, and one that doesn't isn't
pub counted : (test : ℕ → Bool) (n : ℕ) → test n ≡ true → count_below test (suc n) ≡ suc (count_below test n)
counted test n e = ap (λ (b : Bool). count_below test n + cond b 1 0) e ∙ omega arith

pub uncounted : (test : ℕ → Bool) (n : ℕ) → test n ≡ false → count_below test (suc n) ≡ count_below test n
uncounted test n e = ap (λ (b : Bool). count_below test n + cond b 1 0) e ∙ omega arith

-- each rank below the count is that of a number
pub kth : (test : ℕ → Bool) (n k : ℕ) → k < count_below test n → Kth test n k
kth test zero k h = absurd (omega arith)
kth test (suc n) k h =
    elim (cases_lt k (count_below test n)) [
      | inl before ↦ let found : Kth test n k = kth test n k before in record { number = found.number; inside = omega arith; passes = found.passes; rank = found.rank }
      | inr here ↦ elim (cases_Bool (test n)) [
        | inl e ↦ record { number = n; inside = omega arith; passes = e; rank = omega (arith, counted test n e) }
        | inr e ↦ absurd (omega (arith, uncounted test n e))
      ]
    ]

-- the rank of a number is below the count
pub rank_below : (test : ℕ → Bool) (n s : ℕ) → s < n → test s ≡ true → count_below test s < count_below test n
rank_below test zero s h e = absurd (omega arith)
rank_below test (suc n) s h e =
    elim (cases_eq s n) [
      | inl same ↦ omega (arith, ap (count_below test) same, counted test n (ap test (sym same) ∙ e))
      | inr other ↦ elim (cases_Bool (test n)) [
        | inl t ↦ omega (arith, counted test n t, rank_below test n s (omega arith) e)
        | inr f ↦ omega (arith, uncounted test n f, rank_below test n s (omega arith) e)
      ]
    ]

-- no two numbers that pass have the same rank
pub same_rank : (test : ℕ → Bool) (s t : ℕ) → test s ≡ true → test t ≡ true → count_below test s ≡ count_below test t → s ≡ t
same_rank test s t e h same =
    elim (cases_order s t) [
      | inl equal ↦ equal
      | inr (inl less) ↦ absurd (omega (arith, same, rank_below test t s less e))
      | inr (inr more) ↦ absurd (omega (arith, same, rank_below test s t more h))
    ]
