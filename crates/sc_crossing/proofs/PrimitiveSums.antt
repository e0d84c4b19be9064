-- The primitive direction of a sum.
use Rattle.std.proofs.Common.{◌≡◌, ℕ, zero, suc, ◌<◌, ℤ, pos, negsuc, ◌+ℤ◌, ◌-ℤ◌, ◌*ℤ◌, ◌<ℤ◌, ◌≤ℤ◌, neg_ℤ, unsigned_abs, FitsSigned, to_z, of_z, to_z-of_z, arith, sym, ap₂, subst, subst₂, ◌∙◌}
use Rattle.std.proofs.lemmas.Int.{ints}
use Rattle.std.proofs.lemmas.Nat.Gcd.{IsGcd-swap}
use Rattle.std.specs.Int.{IsGcd, w64, w128}
use Rattle.sc_algebra.proofs.Ints.{products, one-mul}
use Rattle.sc_whole.proofs.DivisorLaws.{IsGcd-pos}
use Rattle.sc_fraction.proofs.Arithmetic.{divided_coprime}
use Rattle.sc_cone.specs.declared.Direction.{Direction}
use Rattle.sc_cone.specs.declared.Quadrant.{Quadrant}
use Rattle.sc_cone.specs.declared.Quadrant.TheVariants.{Lower, Upper}
use Rattle.sc_cone.specs.Directions.{TurnsLeft, IsIn, IsPrimitive, IsCombination}

opposite : (s t s' t' : ℤ) → s +ℤ s' ≡ pos 0 → t +ℤ t' ≡ pos 0 → pos 0 <ℤ (s *ℤ t' -ℤ t *ℤ s') → ⊥
opposite s t s' t' zero_s zero_t left =
    let is_s : s' ≡ neg_ℤ s = omega (arith, ints) in
    let is_t : t' ≡ neg_ℤ t = omega (arith, ints) in
    let none : s *ℤ neg_ℤ t -ℤ t *ℤ neg_ℤ s ≡ pos 0 = simp products (omega (arith, ints)) in
    absurd (omega (arith, ints, none, subst (λ (z : ℤ). pos 0 <ℤ (s *ℤ neg_ℤ t -ℤ t *ℤ z)) is_s (subst (λ (z : ℤ). pos 0 <ℤ (s *ℤ z -ℤ t *ℤ s')) is_t left)))

some_of : (a b g : ℕ) → (a ≡ 0 → b ≡ 0 → ⊥) → IsGcd a b g → 0 < g
some_of zero zero g h gcd = absurd (h (omega arith) (omega arith))
some_of zero (suc b) g h gcd = IsGcd-pos (suc b) zero g (omega arith) (IsGcd-swap zero (suc b) g gcd)
some_of (suc a) b g h gcd = IsGcd-pos (suc a) b g (omega arith) gcd

-- two directions, one to the left of the other, have a sum with some common divisor
pub some_divisor : (d e : Direction) (g : ℕ) → TurnsLeft d e → IsGcd (unsigned_abs (d.s +ℤ e.s)) (unsigned_abs (d.t +ℤ e.t)) g → 0 < g
some_divisor d e g left gcd =
    some_of (unsigned_abs (d.s +ℤ e.s)) (unsigned_abs (d.t +ℤ e.t)) g
    (λ none_s none_t. opposite d.s d.t e.s e.t (omega (arith, ints)) (omega (arith, ints)) left) gcd

module _ (d e : Direction) (g : ℕ) (s t : ℤ) (some : 0 < g) (gcd : IsGcd (unsigned_abs (d.s +ℤ e.s)) (unsigned_abs (d.t +ℤ e.t)) g)
    (exact_s : pos g *ℤ s ≡ d.s +ℤ e.s) (exact_t : pos g *ℤ t ≡ d.t +ℤ e.t) where
  -- the sum over its greatest common divisor is primitive, and is in the direction of the sum
  pub sum_primitive : IsPrimitive (record { s = s; t = t })
  sum_primitive = divided_coprime (d.s +ℤ e.s) (d.t +ℤ e.t) s t g some exact_s exact_t gcd

  pub sum_combination : IsCombination g 1 1 d e (record { s = s; t = t })
  sum_combination = record {
    first = exact_s ∙ sym (ap₂ (λ (x y : ℤ). x +ℤ y) (one-mul d.s) (one-mul e.s));
    second = exact_t ∙ sym (ap₂ (λ (x y : ℤ). x +ℤ y) (one-mul d.t) (one-mul e.t));
  }

part_above : (g : ℕ) (x y z : ℤ) → 0 < g → pos 0 ≤ℤ x → pos 0 ≤ℤ y → pos g *ℤ z ≡ x +ℤ y → pos 0 ≤ℤ z
part_above g x y (pos n) some high_x high_y e = omega (arith, ints)
part_above zero x y (negsuc n) some high_x high_y e = absurd (omega arith)
part_above (suc g) x y (negsuc n) some high_x high_y e = absurd (omega (arith, ints))

part_below : (g : ℕ) (x y z : ℤ) → 0 < g → x ≤ℤ pos 0 → y ≤ℤ pos 0 → pos g *ℤ z ≡ x +ℤ y → z ≤ℤ pos 0
part_below zero x y z some low_x low_y e = absurd (omega arith)
part_below (suc g) x y (pos zero) some low_x low_y e = omega (arith, ints)
part_below (suc g) x y (pos (suc n)) some low_x low_y e = absurd (omega (arith, ints))
part_below (suc g) x y (negsuc n) some low_x low_y e = omega (arith, ints)

-- a sum of two directions of a quadrant lies in it
pub sum_within : (q : Quadrant) (d e x : Direction) (g : ℕ) → 0 < g → IsIn q d → IsIn q e → IsCombination g 1 1 d e x → IsIn q x
sum_within Lower d e x g some in_d in_e sum = (
  part_above g d.s e.s x.s some in_d.0 in_e.0 (sum.first ∙ ap₂ (λ (x y : ℤ). x +ℤ y) (one-mul d.s) (one-mul e.s)),
  part_below g d.t e.t x.t some in_d.1 in_e.1 (sum.second ∙ ap₂ (λ (x y : ℤ). x +ℤ y) (one-mul d.t) (one-mul e.t)),
)
sum_within Upper d e x g some in_d in_e sum = (
  part_above g d.s e.s x.s some in_d.0 in_e.0 (sum.first ∙ ap₂ (λ (x y : ℤ). x +ℤ y) (one-mul d.s) (one-mul e.s)),
  part_above g d.t e.t x.t some in_d.1 in_e.1 (sum.second ∙ ap₂ (λ (x y : ℤ). x +ℤ y) (one-mul d.t) (one-mul e.t)),
)

-- the sum of two numbers of 64 bits, made in 128
pub wide_sum : (x y a b : ℤ) → FitsSigned w64 a → FitsSigned w64 b → x ≡ to_z w64 (of_z w64 a) → y ≡ to_z w64 (of_z w64 b)
    → to_z w128 (of_z w128 (to_z w128 (of_z w128 x) +ℤ to_z w128 (of_z w128 y))) ≡ a +ℤ b
wide_sum x y a b narrow_a narrow_b x_is y_is =
    let fits_a : FitsSigned w128 a = omega (arith, ints, narrow_a) in
    let fits_b : FitsSigned w128 b = omega (arith, ints, narrow_b) in
    let fits_sum : FitsSigned w128 (a +ℤ b) = omega (arith, ints, narrow_a, narrow_b) in
    subst₂ (λ (u v : ℤ). to_z w128 (of_z w128 (to_z w128 (of_z w128 u) +ℤ to_z w128 (of_z w128 v))) ≡ a +ℤ b)
    (sym (x_is ∙ to_z-of_z narrow_a)) (sym (y_is ∙ to_z-of_z narrow_b))
    (simp (to_z-of_z fits_a, to_z-of_z fits_b) (to_z-of_z fits_sum))

abbrev held : ℤ → ℤ
held z = to_z w128 (of_z w128 z)

module _ (d e : Direction) (x y z w : ℤ) (g : ℕ)
    (d_s : FitsSigned w64 d.s) (e_s : FitsSigned w64 e.s) (d_t : FitsSigned w64 d.t) (e_t : FitsSigned w64 e.t)
    (x_is : x ≡ to_z w64 (of_z w64 d.s)) (y_is : y ≡ to_z w64 (of_z w64 e.s)) (z_is : z ≡ to_z w64 (of_z w64 d.t)) (w_is : w ≡ to_z w64 (of_z w64 e.t))
    (left : TurnsLeft d e) (gcd : IsGcd (unsigned_abs (held (held x +ℤ held y))) (unsigned_abs (held (held z +ℤ held w))) g) where
  first_sum : held (held x +ℤ held y) ≡ d.s +ℤ e.s
  first_sum = wide_sum x y d.s e.s d_s e_s x_is y_is

  second_sum : held (held z +ℤ held w) ≡ d.t +ℤ e.t
  second_sum = wide_sum z w d.t e.t d_t e_t z_is w_is

  divisor : IsGcd (unsigned_abs (d.s +ℤ e.s)) (unsigned_abs (d.t +ℤ e.t)) g
  divisor = subst₂ (λ (u v : ℤ). IsGcd (unsigned_abs u) (unsigned_abs v) g) first_sum second_sum gcd

  -- the same by the numbers of 64 bits that the code has
  pub divisor_above : 0 < g
  divisor_above = some_divisor d e g left divisor

  module _ (p q : ℤ) (exact_p : pos g *ℤ p ≡ held (held x +ℤ held y)) (exact_q : pos g *ℤ q ≡ held (held z +ℤ held w)) where
    pub divided_primitive : IsPrimitive (record { s = p; t = q })
    divided_primitive = sum_primitive d e g p q divisor_above divisor (exact_p ∙ first_sum) (exact_q ∙ second_sum)

    pub divided_sum : (k : ℕ) × (0 < k) × IsCombination k 1 1 d e (record { s = p; t = q })
    divided_sum = (g, divisor_above, sum_combination d e g p q divisor_above divisor (exact_p ∙ first_sum) (exact_q ∙ second_sum))
