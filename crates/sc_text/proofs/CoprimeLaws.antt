-- Whether two numbers have no common divisor but 1, as a test over the numbers that may divide them.
use Rattle.std.proofs.Common.{◌≡◌, ℕ, ◌+◌, ◌-◌, ◌%◌, ◌<◌, ◌≤◌, Bool, true, false, not, ◌&&◌, eqb, get_or, refl, sym, ap, subst, ◌∙◌, arith, inl, inr}
use Rattle.std.specs.List.{range_with_len}
use Rattle.std.specs.Int.{◌∣◌, IsGcd}
use Rattle.std.proofs.lemmas.Bool.{cases_Bool, cases_eq, and_parts, eqb-true, not-false, false≢true}
use Rattle.std.proofs.lemmas.List.FromFn.{length-range_with_len, get_or-range_with_len}
use Rattle.std.proofs.lemmas.List.Sums.{AllPass-from_list_all, list_all-from_AllPass}
use Rattle.std.proofs.lemmas.Nat.Gcd.{le_of_dvd, dvd_of_mod-eq-zero, mod-eq-zero_of_dvd, IsGcd-swap}
use Rattle.sc_whole.proofs.DivisorLaws.{gcd_exists, IsGcd-pos}
use Rattle.sc_text.specs.ValueLines.{are_coprime}

-- whether k isn't a divisor of both
abbrev separates : ℕ → ℕ → ℕ → Bool
separates a b k = not (eqb (a % k) 0 && eqb (b % k) 0)

not_both : (a b k : ℕ) → k ∣ a → k ∣ b → separates a b k ≡ false
not_both a b k p q = rw (mod-eq-zero_of_dvd k p, mod-eq-zero_of_dvd k q) refl

divides_both : (a b k : ℕ) → separates a b k ≡ false → (k ∣ a) × (k ∣ b)
divides_both a b k h =
    let both = and_parts (eqb (a % k) 0) (eqb (b % k) 0) (not-false _ h) in
    (dvd_of_mod-eq-zero k (eqb-true _ _ both.0), dvd_of_mod-eq-zero k (eqb-true _ _ both.1))

-- numbers without a divisor in common pass the test
pub coprime_test : (a b : ℕ) → IsGcd a b 1 → are_coprime a b ≡ true
unfolding are_coprime
coprime_test a b h =
    list_all-from_AllPass (separates a b) (range_with_len 2 (b - 1))
    (λ i d within.
    let at : get_or (range_with_len 2 (b - 1)) i d ≡ 2 + i = get_or-range_with_len 2 (b - 1) i d (omega (arith, length-range_with_len 2 (b - 1))) in
    elim (cases_Bool (separates a b (2 + i))) [
      | inl apart ↦ rw at apart
      | inr both ↦ absurd (let two = divides_both a b (2 + i) both in omega (arith, le_of_dvd {m = 2 + i} {n = 1} (omega arith) (h.2 (2 + i) two.0 two.1)))
    ])

-- numbers that pass it have no divisor in common, where the second isn't 0
pub coprime_from_test : (a b : ℕ) → 1 ≤ b → are_coprime a b ≡ true → IsGcd a b 1
unfolding are_coprime
coprime_from_test a b some h =
    let gcd = gcd_exists a b in
    let g = gcd.0 in
    let high : g ≤ b = le_of_dvd {m = g} {n = b} some gcd.1.1 in
    elim (cases_eq g 1) [
      | inl one ↦ subst (IsGcd a b) one gcd.1
      | inr other ↦ absurd (
          let low : 0 < g = IsGcd-pos b a g some (IsGcd-swap a b g gcd.1) in
          let at : get_or (range_with_len 2 (b - 1)) (g - 2) 0 ≡ 2 + (g - 2) = get_or-range_with_len 2 (b - 1) (g - 2) 0 (omega arith) in
          let is : get_or (range_with_len 2 (b - 1)) (g - 2) 0 ≡ g = omega arith in
          let apart : separates a b (get_or (range_with_len 2 (b - 1)) (g - 2) 0) ≡ true =
          AllPass-from_list_all (separates a b) (range_with_len 2 (b - 1)) h (g - 2) 0 (omega (arith, length-range_with_len 2 (b - 1))) in
          false≢true (sym (not_both a b g gcd.1.0 gcd.1.1) ∙ ap (separates a b) (sym is) ∙ apart))
    ]
