-- Exact division.
use Rattle.std.proofs.Common.{◌≡◌, ℕ, zero, suc, ◌*◌, ◌/◌, ◌^◌, ◌<◌, ◌≤◌, ℤ, pos, negsuc, ◌*ℤ◌, neg_ℤ, unsigned_abs, int_div, FitsSigned, inl, inr, ap, ◌∙◌, sym, arith}
use Rattle.std.specs.Int.{◌∣◌, w128, int_signum}
use Rattle.std.proofs.lemmas.Nat.Gcd.{le_of_dvd}
use Rattle.std.proofs.Math.Nat.{mul-div_cancel', div_self, zero-div}
use Rattle.std.proofs.lemmas.Bool.{cases_lt}
use Rattle.std.proofs.lemmas.Int.{ints}

times_negative : (m n : ℕ) → pos m *ℤ neg_ℤ (pos n) ≡ neg_ℤ (pos (m * n))
times_negative m n = grind (arith, ints)

-- a number divided by one of its divisors
pub exact_quotient : (x : ℤ) (g : ℕ) → g ∣ unsigned_abs x → pos g *ℤ int_div x (pos g) ≡ x
exact_quotient (pos n) g h = ap pos (mul-div_cancel' g h)
exact_quotient (negsuc n) g h = times_negative g (suc n / g) ∙ ap (λ k. neg_ℤ (pos k)) (mul-div_cancel' g h)

-- a divisor above all numbers of 128 bits is 2^127, and its multiples are 0 and the least number
least_multiple : (n g : ℕ) → n < 2 ^ 127 → 2 ^ 127 ≤ g → g ∣ suc n → g ≡ suc n
least_multiple n g small large h = omega (arith, le_of_dvd {m = g} {n = suc n} (omega arith) h)

-- a number of 128 bits, divided by one of its divisors that is at least 2^127, gives its sign
pub wide_quotient : (x : ℤ) (g : ℕ) → FitsSigned w128 x → 2 ^ 127 ≤ g → g ∣ unsigned_abs x → int_signum x ≡ int_div x (pos g)
wide_quotient (pos zero) g fits large h = ap pos (sym (zero-div g))
wide_quotient (pos (suc n)) g fits large h = let small = fits.sfits in absurd (omega (arith, le_of_dvd {m = g} {n = suc n} (omega arith) h))
wide_quotient (negsuc n) g fits large h =
    let whole : g ≡ suc n = least_multiple n g fits.sfits large h in
    let one : suc n / g ≡ 1 = ap (λ k. suc n / k) whole ∙ div_self (omega arith) in
    ap (λ k. neg_ℤ (pos k)) (sym one)

-- a natural number outside `i128` is at least 2^127
pub not_fits : (n : ℕ) → ¬ FitsSigned w128 (pos n) → 2 ^ 127 ≤ n
not_fits n h = elim (cases_lt n (2 ^ 127)) [ inl l ↦ absurd (h (record { sfits = l })) | inr g ↦ g ]
