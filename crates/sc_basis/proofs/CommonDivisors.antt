-- Greatest common divisors entry by entry.
use Rattle.std.specs.Prelude.{◌≡◌, ℕ, zero, suc, ◌*◌, ◌<◌, ◌≤◌, ℤ, pos, negsuc, ◌*ℤ◌, ◌<ℤ◌, unsigned_abs}
use Rattle.std.specs.Int.{◌∣◌, IsGcd}
use Rattle.std.proofs.Common.{arith, sym, ap, ◌∙◌, subst, inl, inr, eq-zero-or-pos}
use Rattle.std.proofs.lemmas.Int.{ints, unsigned_abs-mul}
use Rattle.std.proofs.lemmas.Bool.{cases_eq}
use Rattle.std.proofs.lemmas.Nat.Gcd.{dvd_refl, dvd_trans}
use Rattle.std.proofs.Math.Nat.{one-dvd, eq-one_of_dvd-one, eq-zero_of_zero-dvd, mul-dvd-mul_left, dvd_of_mul-dvd-mul_left}
use Rattle.sc_basis.specs.Products.{IsReduced}
use Rattle.sc_basis.specs.Divisors.{IsCommonDivisor}

-- no entries yet
pub divisor_first : (v : ℕ → ℤ) (d : ℤ) → IsCommonDivisor 0 v d (unsigned_abs d)
divisor_first v d =
    record {
      of_scale = dvd_refl (unsigned_abs d);
      of_entries = λ k l. absurd (omega arith);
      greatest = λ e h f. h;
    }

of_last : (n g h : ℕ) (v : ℕ → ℤ) → ((k : ℕ) → k < n → g ∣ unsigned_abs (v k)) → h ∣ g → h ∣ unsigned_abs (v n) → (k : ℕ) → k < suc n → h ∣ unsigned_abs (v k)
of_last n g h v of_entries below here k l =
    elim (cases_eq k n) [
      | inl e ↦ subst (λ (j : ℕ). h ∣ unsigned_abs (v j)) (sym e) here
      | inr apart ↦ dvd_trans h below (of_entries k (omega arith))
    ]

-- one more entry
pub divisor_next : (n : ℕ) (v : ℕ → ℤ) (d : ℤ) (g h : ℕ) → IsCommonDivisor n v d g → IsGcd g (unsigned_abs (v n)) h → IsCommonDivisor (suc n) v d h
divisor_next n v d g h old gcd =
    record {
      of_scale = dvd_trans h gcd.0 old.of_scale;
      of_entries = of_last n g h v old.of_entries gcd.0 gcd.1;
      greatest = λ e p f. gcd.2 e (old.greatest e p (λ k l. f k (omega arith))) (f n (omega arith));
    }

-- at 1 no further entry matters
pub divisor_one : (m n : ℕ) (v : ℕ → ℤ) (d : ℤ) → m ≤ n → IsCommonDivisor m v d 1 → IsCommonDivisor n v d 1
divisor_one m n v d within h =
    record {
      of_scale = one-dvd (unsigned_abs d);
      of_entries = λ k l. one-dvd (unsigned_abs (v k));
      greatest = λ e p f. h.greatest e p (λ k l. f k (omega arith));
    }

-- the divisor of a scale that isn't 0 isn't 0
pub divisor_positive : (n : ℕ) (v : ℕ → ℤ) (d : ℤ) (g : ℕ) → pos 0 <ℤ d → IsCommonDivisor n v d g → 0 < g
divisor_positive n v (pos zero) g above h = absurd (omega (arith, ints))
divisor_positive n v (pos (suc m)) g above h =
    elim (eq-zero-or-pos g) [
      | inl z ↦ absurd (omega (arith, eq-zero_of_zero-dvd (subst (λ (k : ℕ). k ∣ suc m) z h.of_scale)))
      | inr p ↦ p
    ]
divisor_positive n v (negsuc m) g above h = absurd (omega (arith, ints))

size : (g : ℕ) (x y : ℤ) → pos g *ℤ x ≡ y → g * unsigned_abs x ≡ unsigned_abs y
size g x y e = sym (unsigned_abs-mul (pos g) x) ∙ ap unsigned_abs e

no_further : (g f : ℕ) → 0 < g → g * f ∣ g → f ≡ 1
no_further g f above h =
    let whole : g ≡ g * 1 = omega arith in
    eq-one_of_dvd-one (dvd_of_mul-dvd-mul_left f above (subst (λ (k : ℕ). g * f ∣ k) whole h))

-- a list and its scale that are divided by their greatest common divisor have no further one
pub divided_by : (n : ℕ) (v w : ℕ → ℤ) (d e : ℤ) (g : ℕ) → pos 0 <ℤ e → IsCommonDivisor n w e g
    → ((k : ℕ) → k < n → pos g *ℤ v k ≡ w k) → pos g *ℤ d ≡ e → IsReduced n v d w e
divided_by n v w d e g above h entries scale =
    let some : 0 < g = divisor_positive n w e g above h in
    record {
      factor = pos g;
      positive = omega (arith, ints);
      entries = entries;
      scale = scale;
      coprime = λ f of_d of_v.
          no_further g f some (
          h.greatest (g * f) (subst (λ (k : ℕ). g * f ∣ k) (size g d e scale) (mul-dvd-mul_left f g of_d))
          (λ k l. subst (λ (j : ℕ). g * f ∣ j) (size g (v k) (w k) (entries k l)) (mul-dvd-mul_left f g (of_v k l)))
          );
    }
