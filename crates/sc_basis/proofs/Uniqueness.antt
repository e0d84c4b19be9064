-- Two lists that stand for the same in one basis, both without a common divisor, are the same. Lists in
-- proportion are multiples of one list, found by taking the lesser scale from the greater until both are the
-- same.
use Rattle.std.specs.Prelude.{◌≡◌, ℕ, zero, suc, ◌+◌, ◌-◌, ◌<◌, ◌≤◌, ℤ, pos, negsuc, ◌+ℤ◌, ◌-ℤ◌, ◌*ℤ◌, ◌<ℤ◌, unsigned_abs}
use Rattle.std.specs.Int.{◌∣◌}
use Rattle.std.proofs.Common.{arith, sym, ap, subst, ◌∙◌, inl, inr}
use Rattle.std.proofs.lemmas.Int.{ints, unsigned_abs-mul}
use Rattle.std.proofs.lemmas.Bool.{cases_lt}
use Rattle.std.proofs.Math.Nat.{dvd-mul_right}
use Rattle.sc_algebra.proofs.Ints.{add_mul, mul_sub, one-mul, cancel}
use Rattle.sc_basis.specs.Products.{IsCoprime}

-- v over d and w over e are s and t times one list
pub record AreMultiplesOfOne (r : ℕ) (v w : ℕ → ℤ) (d e : ℤ) : Type 0 where
  pub part : ℕ → ℤ
  pub scale : ℤ
  pub s : ℕ
  pub t : ℕ
  pub first : (k : ℕ) → k < r → v k ≡ pos s *ℤ part k
  pub second : (k : ℕ) → k < r → w k ≡ pos t *ℤ part k
  pub first_scale : d ≡ pos s *ℤ scale
  pub second_scale : e ≡ pos t *ℤ scale

swapped : (r : ℕ) (v w : ℕ → ℤ) (d e : ℤ) → AreMultiplesOfOne r v w d e → AreMultiplesOfOne r w v e d
swapped r v w d e m =
    record { part = m.part; scale = m.scale; s = m.t; t = m.s; first = m.second; second = m.first; first_scale = m.second_scale; second_scale = m.first_scale }

more : (s t : ℕ) (x w v : ℤ) → v ≡ pos s *ℤ x → w -ℤ v ≡ pos t *ℤ x → w ≡ pos (s + t) *ℤ x
more s t x w v first rest =
    let split : pos (s + t) *ℤ x ≡ pos s *ℤ x +ℤ pos t *ℤ x = add_mul (pos s) (pos t) x in
    omega (arith, ints)

joined : (r : ℕ) (v w : ℕ → ℤ) (d e : ℤ) → AreMultiplesOfOne r v (λ k. w k -ℤ v k) d (e -ℤ d) → AreMultiplesOfOne r v w d e
joined r v w d e m =
    record {
      part = m.part;
      scale = m.scale;
      s = m.s;
      t = m.s + m.t;
      first = m.first;
      second = λ k l. more m.s m.t (m.part k) (w k) (v k) (m.first k l) (m.second k l);
      first_scale = m.first_scale;
      second_scale = more m.s m.t m.scale e d m.first_scale m.second_scale;
    }

lessened : (a c : ℕ) (v w : ℤ) → pos (a + c) *ℤ v ≡ pos a *ℤ w → pos c *ℤ v ≡ pos a *ℤ (w -ℤ v)
lessened a c v w h =
    let sum : pos (a + c) *ℤ v ≡ pos a *ℤ v +ℤ pos c *ℤ v = add_mul (pos a) (pos c) v in
    let difference : pos a *ℤ (w -ℤ v) ≡ pos a *ℤ w -ℤ pos a *ℤ v = mul_sub (pos a) w v in
    omega (arith, ints)

-- in proportion, with scales that sum to at most n
abbrev Divided : ℕ → ℕ → Type 0
Divided n r =
    (v w : ℕ → ℤ) (a b : ℕ) → a + b ≤ n → 0 < a → 0 < b → ((k : ℕ) → k < r → pos b *ℤ v k ≡ pos a *ℤ w k) → AreMultiplesOfOne r v w (pos a) (pos b)

equal_scales : (r : ℕ) (v w : ℕ → ℤ) (a b : ℕ) → 0 < b → ((k : ℕ) → k < r → pos b *ℤ v k ≡ pos a *ℤ w k) → a ≡ b → AreMultiplesOfOne r v w (pos a) (pos b)
equal_scales r v w a b q same e =
    record {
      part = v;
      scale = pos a;
      s = 1;
      t = 1;
      first = λ k l. sym (one-mul (v k));
      second = λ k l. sym (one-mul (v k) ∙ cancel b (v k) (w k) q (same k l ∙ ap (λ (x : ℕ). pos x *ℤ w k) e));
      first_scale = sym (one-mul (pos a));
      second_scale = sym (one-mul (pos a) ∙ ap pos e);
    }

second_greater : (n r : ℕ) → Divided n r → (v w : ℕ → ℤ) (a b c : ℕ) → a + b ≤ suc n → 0 < a → b ≡ a + c → 0 < c → ((k : ℕ) → k < r → pos b *ℤ v k ≡ pos a *ℤ w k) → AreMultiplesOfOne r v w (pos a) (pos b)
second_greater n r before v w a b c fuel p e c_positive same =
    joined r v w (pos a) (pos b)
    (subst (λ (z : ℤ). AreMultiplesOfOne r v (λ k. w k -ℤ v k) (pos a) z) (let f : pos c ≡ pos b -ℤ pos a = omega (arith, ints) in f)
    (before v (λ k. w k -ℤ v k) a c (omega arith) p c_positive
    (λ k l. lessened a c (v k) (w k) (ap (λ (x : ℕ). pos x *ℤ v k) (sym e) ∙ same k l))))

multiples : (n r : ℕ) → Divided n r
multiples zero r v w a b fuel p q same = absurd (omega arith)
multiples (suc n) r v w a b fuel p q same =
    elim (cases_lt a b) [
      | inl less ↦ second_greater n r (multiples n r) v w a b (b - a) fuel p (omega arith) (omega arith) same
      | inr not_less ↦ elim (cases_lt b a) [
        | inl greater ↦ swapped r w v (pos b) (pos a) (second_greater n r (multiples n r) w v b a (a - b) (omega arith) q (omega arith) (omega arith) (λ k l. sym (same k l)))
        | inr not_greater ↦ equal_scales r v w a b q same (omega arith)
      ]
    ]

divides_multiple : (s : ℕ) (x y : ℤ) → y ≡ pos s *ℤ x → s ∣ unsigned_abs y
divides_multiple s x y e = subst (λ (n : ℕ). s ∣ n) (sym (ap unsigned_abs e ∙ unsigned_abs-mul (pos s) x)) (dvd-mul_right s (unsigned_abs x))

one_factor : (r : ℕ) (v : ℕ → ℤ) (d : ℤ) (s : ℕ) (part : ℕ → ℤ) (scale : ℤ) → IsCoprime r v d → d ≡ pos s *ℤ scale → ((k : ℕ) → k < r → v k ≡ pos s *ℤ part k) → s ≡ 1
one_factor r v d s part scale coprime of_scale of_list =
    coprime s (divides_multiple s scale d of_scale) (λ k l. divides_multiple s (part k) (v k) (of_list k l))

-- what the multiples are where both lists have no common divisor
both_one : (r : ℕ) (v w : ℕ → ℤ) (d e : ℤ) → IsCoprime r v d → IsCoprime r w e → AreMultiplesOfOne r v w d e → (d ≡ e) × ((k : ℕ) → k < r → v k ≡ w k)
both_one r v w d e first second m =
    let s_is : m.s ≡ 1 = one_factor r v d m.s m.part m.scale first m.first_scale m.first in
    let t_is : m.t ≡ 1 = one_factor r w e m.t m.part m.scale second m.second_scale m.second in
    let same : m.s ≡ m.t = s_is ∙ sym t_is in (
      m.first_scale ∙ ap (λ (n : ℕ). pos n *ℤ m.scale) same ∙ sym m.second_scale,
      λ k l. m.first k l ∙ ap (λ (n : ℕ). pos n *ℤ m.part k) same ∙ sym (m.second k l),
    )

-- lists in proportion without a common divisor are the same
pub same_numbers : (r : ℕ) (v w : ℕ → ℤ) (d e : ℤ) → pos 0 <ℤ d → pos 0 <ℤ e → ((k : ℕ) → k < r → e *ℤ v k ≡ d *ℤ w k) → IsCoprime r v d → IsCoprime r w e → (d ≡ e) × ((k : ℕ) → k < r → v k ≡ w k)
same_numbers r v w (pos a) (pos b) p q same first second =
    both_one r v w (pos a) (pos b) first second (multiples (a + b) r v w a b (omega arith) (omega (arith, ints)) (omega (arith, ints)) same)
same_numbers r v w (pos a) (negsuc b) p q same first second = absurd (omega (arith, ints))
same_numbers r v w (negsuc a) e p q same first second = absurd (omega (arith, ints))
