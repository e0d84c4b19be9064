-- Primitive directions of a quadrant: they are the same where they span no area.
use Rattle.std.proofs.Common.{◌≡◌, ℕ, zero, suc, ◌+◌, ◌-◌, ◌*◌, ◌<◌, ◌≤◌, ℤ, pos, ◌-ℤ◌, ◌*ℤ◌, ◌≤ℤ◌, unsigned_abs, inl, inr, arith, sym, ap, subst, ◌∙◌, eq-zero-or-pos}
use Rattle.std.specs.Int.{◌∣◌, IsGcd}
use Rattle.std.proofs.lemmas.Int.{ints, unsigned_abs-mul}
use Rattle.std.proofs.lemmas.Bool.{cases_order}
use Rattle.std.proofs.lemmas.Nat.Gcd.{dvd-zero}
use Rattle.std.proofs.Math.Nat.{dvd-mul_right, eq-one_of_dvd-one, eq-zero_of_zero-dvd}
use native.Mathlib.Nat.{le_of_mul-le-mul_left}
use Rattle.sc_algebra.proofs.Ints.{cancel, same-pos}
use Rattle.sc_cone.specs.declared.Direction.{Direction}
use Rattle.sc_cone.specs.declared.Quadrant.{Quadrant}
use Rattle.sc_cone.specs.declared.Quadrant.TheVariants.{Lower, Upper}
use Rattle.sc_cone.specs.Directions.{IsIn, IsPrimitive, cross}
use Rattle.sc_cone.proofs.Sizes.{from_zero, to_zero}

-- two pairs of numbers in proportion are multiples of one pair
record InProportion (a b a' b' : ℕ) : Type 0 where
  x : ℕ
  y : ℕ
  i : ℕ
  j : ℕ
  is_a : a ≡ i * x
  is_b : b ≡ i * y
  is_a' : a' ≡ j * x
  is_b' : b' ≡ j * y

cancelled : (p a b : ℕ) → 0 < p → p * a ≡ p * b → a ≡ b
cancelled p a b above h = same-pos a b (cancel p (pos a) (pos b) above (ap pos h))

-- the lesser factor goes with the greater number
greater : (p q a a' : ℕ) → 0 < p → p < q → p * a ≡ q * a' → a' ≤ a
greater p q a a' above less h =
    le_of_mul-le-mul_left {m = a'} {n = a} {k = p} (omega (arith, h, ap (λ (t : ℕ). t * a') (split p q less))) above
  where
    split : (p q : ℕ) → p < q → q ≡ p + (q - p)
    split p q less = omega arith

taken : (p q a a' : ℕ) → 0 < p → p < q → p * a ≡ q * a' → p * (a - a') ≡ (q - p) * a'
taken p q a a' above less h =
    rest p (q - p) (a - a') a' a q (omega arith) (omega (arith, greater p q a a' above less h)) h
  where
    rest : (p r c a' a q : ℕ) → q ≡ p + r → a ≡ a' + c → p * a ≡ q * a' → p * c ≡ r * a'
    rest p r c a' a q eq ea h = omega (arith, h, ap (λ (t : ℕ). t * a') eq, ap (λ (t : ℕ). p * t) ea)

swapped : (a b a' b' : ℕ) → InProportion a' b' a b → InProportion a b a' b'
swapped a b a' b' h = record { x = h.x; y = h.y; i = h.j; j = h.i; is_a = h.is_a'; is_b = h.is_b'; is_a' = h.is_a; is_b' = h.is_b }

more : (a b a' b' : ℕ) → a' ≤ a → b' ≤ b → InProportion (a - a') (b - b') a' b' → InProportion a b a' b'
more a b a' b' la lb h = record {
  x = h.x;
  y = h.y;
  i = h.i + h.j;
  j = h.j;
  is_a = omega (arith, h.is_a, h.is_a');
  is_b = omega (arith, h.is_b, h.is_b');
  is_a' = h.is_a';
  is_b' = h.is_b';
}

proportion : (n p q a b a' b' : ℕ) → p + q ≤ n → 0 < p → 0 < q → p * a ≡ q * a' → p * b ≡ q * b' → InProportion a b a' b'
proportion zero p q a b a' b' bound above above' e f = absurd (omega arith)
proportion (suc n) p q a b a' b' bound above above' e f =
    elim (cases_order p q) [
      | inl same ↦
          let e' : p * a ≡ p * a' = e ∙ ap (λ (t : ℕ). t * a') (sym same) in
          let f' : p * b ≡ p * b' = f ∙ ap (λ (t : ℕ). t * b') (sym same) in
          record { x = a; y = b; i = 1; j = 1; is_a = omega arith; is_b = omega arith; is_a' = omega (arith, cancelled p a a' above e'); is_b' = omega (arith, cancelled p b b' above f') }
      | inr (inl less) ↦
          more a b a' b' (greater p q a a' above less e) (greater p q b b' above less f)
          (proportion n p (q - p) (a - a') (b - b') a' b' (omega arith) above (omega arith) (taken p q a a' above less e) (taken p q b b' above less f))
      | inr (inr over) ↦
          swapped a b a' b'
          (more a' b' a b (greater q p a' a above' over (sym e)) (greater q p b' b above' over (sym f))
          (proportion n q (p - q) (a' - a) (b' - b) a b (omega arith) above' (omega arith) (taken q p a' a above' over (sym e)) (taken q p b' b above' over (sym f))))
    ]

-- a pair without a common divisor isn't 0, and is no multiple but once
pub not_both : (a b : ℕ) → IsGcd a b 1 → 0 < a + b
not_both a b h =
    elim (eq-zero-or-pos (a + b)) [
      | inl none ↦
          let zero_a : a ≡ 0 = omega arith in
          let zero_b : b ≡ 0 = omega arith in
          absurd (omega (arith, eq-zero_of_zero-dvd (h.2 0 (subst (λ (t : ℕ). 0 ∣ t) (sym zero_a) (dvd-zero 0)) (subst (λ (t : ℕ). 0 ∣ t) (sym zero_b) (dvd-zero 0)))))
      | inr some ↦ some
    ]

once : (a b i x y : ℕ) → IsGcd a b 1 → a ≡ i * x → b ≡ i * y → i ≡ 1
once a b i x y h e f =
    eq-one_of_dvd-one (h.2 i (subst (λ (t : ℕ). i ∣ t) (sym e) (dvd-mul_right i x)) (subst (λ (t : ℕ). i ∣ t) (sym f) (dvd-mul_right i y)))

multiples_of_one : (a b a' b' : ℕ) → IsGcd a b 1 → IsGcd a' b' 1 → InProportion a b a' b' → (a ≡ a') × (b ≡ b')
multiples_of_one a b a' b' h h' r =
    let same : r.i ≡ r.j = once a b r.i r.x r.y h r.is_a r.is_b ∙ sym (once a' b' r.j r.x r.y h' r.is_a' r.is_b') in
    (r.is_a ∙ ap (λ (t : ℕ). t * r.x) same ∙ sym r.is_a', r.is_b ∙ ap (λ (t : ℕ). t * r.y) same ∙ sym r.is_b')

same_pair : (a b a' b' : ℕ) → IsGcd a b 1 → IsGcd a' b' 1 → a * b' ≡ b * a' → (a ≡ a') × (b ≡ b')
same_pair a b a' b' h h' e =
    multiples_of_one a b a' b' h h'
    (proportion ((a' + b') + (a + b)) (a' + b') (a + b) a b a' b' (omega arith) (not_both a' b' h') (not_both a b h) (omega (arith, e)) (omega (arith, e)))

-- directions from their coordinates
same_up : (a b : ℤ) → pos 0 ≤ℤ a → pos 0 ≤ℤ b → unsigned_abs a ≡ unsigned_abs b → a ≡ b
same_up a b p q e = from_zero a p ∙ ap pos e ∙ sym (from_zero b q)

same_down : (a b : ℤ) → a ≤ℤ pos 0 → b ≤ℤ pos 0 → unsigned_abs a ≡ unsigned_abs b → a ≡ b
same_down a b p q e = omega (arith, ints, to_zero a p, to_zero b q, e)

-- directions of one quadrant whose coordinates have the same sizes are the same
pub same_within : (q : Quadrant) (d e : Direction) → IsIn q d → IsIn q e → unsigned_abs d.s ≡ unsigned_abs e.s → unsigned_abs d.t ≡ unsigned_abs e.t → d ≡ e
same_within Upper d e in_d in_e p r =
    let s = same_up d.s e.s in_d.0 in_e.0 p in
    let t = same_up d.t e.t in_d.1 in_e.1 r in
    λ k. record { s = s k; t = t k }
same_within Lower d e in_d in_e p r =
    let s = same_up d.s e.s in_d.0 in_e.0 p in
    let t = same_down d.t e.t in_d.1 in_e.1 r in
    λ k. record { s = s k; t = t k }

-- primitive directions of one quadrant that span no area are the same
pub same_direction : (q : Quadrant) (d e : Direction) → IsIn q d → IsIn q e → IsPrimitive d → IsPrimitive e → cross d e ≡ pos 0 → d ≡ e
same_direction q d e in_d in_e prim_d prim_e flat =
    let level : d.s *ℤ e.t ≡ d.t *ℤ e.s = equal (d.s *ℤ e.t) (d.t *ℤ e.s) flat in
    let sizes : unsigned_abs d.s * unsigned_abs e.t ≡ unsigned_abs d.t * unsigned_abs e.s =
    sym (unsigned_abs-mul d.s e.t) ∙ ap unsigned_abs level ∙ unsigned_abs-mul d.t e.s in
    let both = same_pair _ _ _ _ prim_d prim_e sizes in
    same_within q d e in_d in_e both.0 both.1
  where
    equal : (x y : ℤ) → x -ℤ y ≡ pos 0 → x ≡ y
    equal x y h = omega (arith, ints)
