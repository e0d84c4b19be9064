-- Laws of greatest common divisors and least common multiples.
use Rattle.std.proofs.Common.{◌≡◌, ℕ, zero, suc, ◌*◌, ◌/◌, ◌%◌, ◌<◌, ◌≤◌, inl, inr, sym, ap, ◌∙◌, subst, arith, eq-zero-or-pos, mod-lt, mul_comm, mul_assoc, zero-mul}
use Rattle.std.specs.Int.{◌∣◌, IsGcd}
use Rattle.std.proofs.lemmas.Nat.Gcd.{dvd-zero, dvd_trans, dvd_antisymm, IsGcd-from_zero, IsGcd-from_mod}
use Rattle.std.proofs.Math.Nat.{dvd-mul_left, dvd-mul_right, mul-dvd-mul_left, mul-dvd-mul_right, dvd_of_mul-dvd-mul_left, mul-div_cancel', eq-zero_of_zero-dvd}
use Rattle.sc_whole.specs.Divisor.{IsLcm}

gcd_by : (fuel a b : ℕ) → b ≤ fuel → (g : ℕ) × IsGcd a b g
gcd_by zero a b le = (a, IsGcd-from_zero a b (omega arith))
gcd_by (suc fuel) a b le =
    elim (eq-zero-or-pos b) [
      | inl z ↦ (a, IsGcd-from_zero a b z)
      | inr p ↦ let r = gcd_by fuel b (a % b) (omega (arith, mod-lt a p)) in (r.0, IsGcd-from_mod a b r.0 r.1)
    ]

-- two numbers have a greatest common divisor
pub gcd_exists : (a b : ℕ) → (g : ℕ) × IsGcd a b g
gcd_exists a b = gcd_by b a b (omega arith)

pub gcd_of_zeros : (a b g : ℕ) → a ≡ 0 → b ≡ 0 → g ≡ 0 → IsGcd a b g
gcd_of_zeros a b g p q r = (subst (λ n. g ∣ n) (sym p) (dvd-zero g), subst (λ n. g ∣ n) (sym q) (dvd-zero g), λ d _ _. subst (λ n. d ∣ n) (sym r) (dvd-zero d))

times_zero : (k a : ℕ) → k ≡ 0 → k * a ≡ 0
times_zero k a z = ap (λ n. n * a) z ∙ zero-mul a

scaled_by_some : (k a b g : ℕ) → 0 < k → IsGcd a b g → IsGcd (k * a) (k * b) (k * g)
scaled_by_some k a b g some h =
    let e = gcd_exists (k * a) (k * b) in
    let whole : k * (e.0 / k) ≡ e.0 = mul-div_cancel' k (e.1.2 k (dvd-mul_right k a) (dvd-mul_right k b)) in
    let of_a : e.0 / k ∣ a = dvd_of_mul-dvd-mul_left (e.0 / k) some (subst (λ n. n ∣ k * a) (sym whole) e.1.0) in
    let of_b : e.0 / k ∣ b = dvd_of_mul-dvd-mul_left (e.0 / k) some (subst (λ n. n ∣ k * b) (sym whole) e.1.1) in
    let within : e.0 ∣ k * g = subst (λ n. n ∣ k * g) whole (mul-dvd-mul_left (e.0 / k) k (h.2 (e.0 / k) of_a of_b)) in
    (mul-dvd-mul_left g k h.0, mul-dvd-mul_left g k h.1, λ d p q. dvd_trans d (e.1.2 d p q) within)

-- a factor of both numbers is a factor of their greatest common divisor
pub IsGcd-scaled : (k a b g : ℕ) → IsGcd a b g → IsGcd (k * a) (k * b) (k * g)
IsGcd-scaled k a b g h =
    elim (eq-zero-or-pos k) [
      | inl z ↦ gcd_of_zeros (k * a) (k * b) (k * g) (times_zero k a z) (times_zero k b z) (times_zero k g z)
      | inr p ↦ scaled_by_some k a b g p h
    ]

-- a number that has no divisor with b in common and divides b * c divides c
pub dvd_of_dvd-mul : (a b c : ℕ) → IsGcd a b 1 → a ∣ c * b → a ∣ c
dvd_of_dvd-mul a b c coprime h =
    let one : c * 1 ≡ c = omega arith in
    subst (λ n. a ∣ n) one ((IsGcd-scaled c a b 1 coprime).2 a (dvd-mul_left a c) h)

-- the greatest common divisor of two numbers that are not both 0
pub IsGcd-pos : (a b g : ℕ) → 0 < a → IsGcd a b g → 0 < g
IsGcd-pos a b g some h = elim (eq-zero-or-pos g) [ inl z ↦ absurd (omega (arith, eq-zero_of_zero-dvd (subst (λ n. n ∣ a) z h.0))) | inr p ↦ p ]

-- the product of two numbers, divided by their greatest common divisor
pub IsLcm-from_gcd : (x y g : ℕ) → 0 < x → IsGcd x y g → IsLcm x y (x / g * y)
IsLcm-from_gcd x y g some h =
    let pos_g : 0 < g = IsGcd-pos x y g some h in
    let whole : g * (x / g) ≡ x = mul-div_cancel' g h.0 in
    let whole_y : g * (y / g) ≡ y = mul-div_cancel' g h.1 in
    let product : x * y ≡ g * (x / g * y) = subst (λ n. n * y ≡ g * (x / g * y)) whole (mul_assoc g (x / g) y) in
    let turned : x * (y / g) ≡ x / g * y =
    subst (λ n. n * (y / g) ≡ x / g * y) whole (subst (λ n. g * (x / g) * (y / g) ≡ x / g * n) whole_y (grind arith)) in
    record {
      of_first = subst (λ n. x ∣ n) turned (dvd-mul_right x (y / g));
      of_second = dvd-mul_left y (x / g);
      least = λ k p q.
          let both : x * y ∣ k * g = (IsGcd-scaled k x y g h).2 (x * y) (subst (λ n. x * y ∣ n) (mul_comm x k) (mul-dvd-mul_left y x q)) (mul-dvd-mul_right x p y) in
          let scaled : g * (x / g * y) ∣ g * k = subst (λ n. n ∣ g * k) product (subst (λ n. x * y ∣ n) (mul_comm k g) both) in
          dvd_of_mul-dvd-mul_left (x / g * y) pos_g scaled;
    }

-- two numbers have one least common multiple
pub same_from_IsLcm : (x y m n : ℕ) → IsLcm x y m → IsLcm x y n → m ≡ n
same_from_IsLcm x y m n p q = dvd_antisymm (p.least n q.of_first q.of_second) (q.least m p.of_first p.of_second)

-- a number below one least common multiple is below each
pub below_each_IsLcm : (x y limit n : ℕ) → IsLcm x y n → limit < n → (m : ℕ) → IsLcm x y m → limit < m
below_each_IsLcm x y limit n p below m q = omega (arith, same_from_IsLcm x y m n q p)
