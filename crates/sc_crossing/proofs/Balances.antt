-- Where the forms of two lists cross, by the numerators and denominators of their fractions.
use Rattle.std.proofs.Common.{◌≡◌, ◌≢◌, zero, suc, ℤ, pos, negsuc, ◌+ℤ◌, ◌-ℤ◌, ◌*ℤ◌, ◌<ℤ◌, ◌≤ℤ◌, arith, sym, ap, ap₂, subst, ◌∙◌}
use Rattle.std.proofs.lemmas.Int.{ints}
use Rattle.sc_algebra.proofs.Ints.{products, mul-zero, zero-mul}
use Rattle.sc_fraction.specs.Ints.{mul_cancel_z}
use Rattle.sc_fraction.proofs.Arithmetic.{mul_positive}

-- n/d is the difference of a/b and k/e, which are x/s and y/t
module _ (a b k e x s y t n d : ℤ) (some_b : pos 0 <ℤ b) (some_e : pos 0 <ℤ e)
    (own : a *ℤ s ≡ x *ℤ b) (other : k *ℤ t ≡ y *ℤ e)
    (difference : n *ℤ (b *ℤ e) ≡ (a *ℤ e -ℤ k *ℤ b) *ℤ d) where
  taken_out : (b *ℤ e) *ℤ (n *ℤ (s *ℤ t)) ≡ (s *ℤ t) *ℤ (n *ℤ (b *ℤ e))
  taken_out = simp products (omega (arith, ints))

  spread : (s *ℤ t) *ℤ ((a *ℤ e -ℤ k *ℤ b) *ℤ d) ≡ ((a *ℤ s) *ℤ (e *ℤ t) -ℤ (k *ℤ t) *ℤ (b *ℤ s)) *ℤ d
  spread = simp products (omega (arith, ints))

  gathered : ((x *ℤ b) *ℤ (e *ℤ t) -ℤ (y *ℤ e) *ℤ (b *ℤ s)) *ℤ d ≡ (b *ℤ e) *ℤ ((x *ℤ t -ℤ y *ℤ s) *ℤ d)
  gathered = simp products (omega (arith, ints))

  pub difference_by_lists : n *ℤ (s *ℤ t) ≡ (x *ℤ t -ℤ y *ℤ s) *ℤ d
  difference_by_lists =
      mul_cancel_z (b *ℤ e) _ _ (mul_positive b e some_b some_e)
      (taken_out
      ∙ ap (λ (z : ℤ). (s *ℤ t) *ℤ z) difference
      ∙ spread
      ∙ ap₂ (λ (u v : ℤ). (u *ℤ (e *ℤ t) -ℤ v *ℤ (b *ℤ s)) *ℤ d) own other
      ∙ gathered)

-- c/e is the ratio of n/d and m/b, which by a common unit are x/s and y/s
module _ (n d m b c e x y s : ℤ) (some_d : pos 0 <ℤ d) (some_b : pos 0 <ℤ b) (some_s : pos 0 <ℤ s)
    (above : n *ℤ s ≡ x *ℤ d) (below : m *ℤ s ≡ y *ℤ b)
    (ratio : c *ℤ (d *ℤ m) ≡ (n *ℤ b) *ℤ e) where
  brought : ((d *ℤ b) *ℤ s) *ℤ (c *ℤ y) ≡ ((c *ℤ d) *ℤ s) *ℤ (y *ℤ b)
  brought = simp products (omega (arith, ints))

  turned : ((c *ℤ d) *ℤ s) *ℤ (m *ℤ s) ≡ (s *ℤ s) *ℤ (c *ℤ (d *ℤ m))
  turned = simp products (omega (arith, ints))

  parted : (s *ℤ s) *ℤ ((n *ℤ b) *ℤ e) ≡ ((s *ℤ b) *ℤ e) *ℤ (n *ℤ s)
  parted = simp products (omega (arith, ints))

  returned : ((s *ℤ b) *ℤ e) *ℤ (x *ℤ d) ≡ ((d *ℤ b) *ℤ s) *ℤ (e *ℤ x)
  returned = simp products (omega (arith, ints))

  pub ratio_balances : c *ℤ y ≡ e *ℤ x
  ratio_balances =
      mul_cancel_z ((d *ℤ b) *ℤ s) _ _ (mul_positive (d *ℤ b) s (mul_positive d b some_d some_b) some_s)
      (brought
      ∙ ap (λ (z : ℤ). ((c *ℤ d) *ℤ s) *ℤ z) (sym below)
      ∙ turned
      ∙ ap (λ (z : ℤ). (s *ℤ s) *ℤ z) ratio
      ∙ parted
      ∙ ap (λ (z : ℤ). ((s *ℤ b) *ℤ e) *ℤ z) above
      ∙ returned)

-- the gaps of two lists, which are by 4 times their scales
four : (a : ℤ) → pos 4 *ℤ a ≡ (a +ℤ a) +ℤ (a +ℤ a)
four a = omega (arith, ints)

in_fours : (x s y t : ℤ) → x *ℤ ((s +ℤ s) +ℤ (s +ℤ s)) -ℤ y *ℤ ((t +ℤ t) +ℤ (t +ℤ t)) ≡ ((x *ℤ s -ℤ y *ℤ t) +ℤ (x *ℤ s -ℤ y *ℤ t)) +ℤ ((x *ℤ s -ℤ y *ℤ t) +ℤ (x *ℤ s -ℤ y *ℤ t))
in_fours x s y t = simp products (omega (arith, ints))

pub gap_in_fours : (x s y t : ℤ) → x *ℤ (pos 4 *ℤ s) -ℤ y *ℤ (pos 4 *ℤ t) ≡ pos 4 *ℤ (x *ℤ s -ℤ y *ℤ t)
gap_in_fours x s y t =
    ap₂ (λ (u v : ℤ). x *ℤ u -ℤ y *ℤ v) (four s) (four t) ∙ in_fours x s y t ∙ sym (four (x *ℤ s -ℤ y *ℤ t))

-- what balances still does with 4 times both numbers
pub four_across : (c e x y : ℤ) → c *ℤ y ≡ e *ℤ x → c *ℤ (pos 4 *ℤ y) ≡ e *ℤ (pos 4 *ℤ x)
four_across c e x y same = out c y ∙ ap (λ (z : ℤ). pos 4 *ℤ z) same ∙ sym (out e x)
  where
    in_out : (a b : ℤ) → a *ℤ ((b +ℤ b) +ℤ (b +ℤ b)) ≡ (a *ℤ b +ℤ a *ℤ b) +ℤ (a *ℤ b +ℤ a *ℤ b)
    in_out a b = simp products (omega (arith, ints))

    out : (a b : ℤ) → a *ℤ (pos 4 *ℤ b) ≡ pos 4 *ℤ (a *ℤ b)
    out a b = ap (λ (z : ℤ). a *ℤ z) (four b) ∙ in_out a b ∙ sym (four (a *ℤ b))

-- a factor of a number that is above 0, where the other factor isn't below 0
above_by : (c q : ℤ) → pos 0 ≤ℤ q → pos 0 <ℤ (c *ℤ q) → pos 0 <ℤ c
above_by (pos zero) q high h = absurd (omega (arith, ints, zero-mul q))
above_by (pos (suc n)) q high h = omega (arith, ints)
above_by (negsuc n) (pos zero) high h = absurd (omega (arith, ints, mul-zero (negsuc n)))
above_by (negsuc n) (pos (suc m)) high h = absurd (omega (arith, ints))
above_by (negsuc n) (negsuc m) high h = absurd (omega (arith, ints))

square : (a : ℤ) → pos 0 ≤ℤ (a *ℤ a)
square (pos n) = omega (arith, ints)
square (negsuc n) = omega (arith, ints)

-- where two gaps of one sign balance, the two multiples have one sign
pub balance_is_above : (c e y x : ℤ) → pos 0 <ℤ e → pos 0 <ℤ (y *ℤ x) → c *ℤ y ≡ e *ℤ x → pos 0 <ℤ c
balance_is_above c e y x some one_sign same =
    let turned : c *ℤ (y *ℤ y) ≡ e *ℤ (y *ℤ x) = outer c y y ∙ ap (λ (z : ℤ). y *ℤ z) same ∙ sym (outer e y x) in
    above_by c (y *ℤ y) (square y) (subst (λ (z : ℤ). pos 0 <ℤ z) (sym turned) (mul_positive e (y *ℤ x) some one_sign))
  where
    outer : (u v w : ℤ) → u *ℤ (v *ℤ w) ≡ v *ℤ (u *ℤ w)
    outer u v w = simp products (omega (arith, ints))

-- so neither gap is 0
pub not_zero_by : (y x : ℤ) → pos 0 <ℤ (y *ℤ x) → y ≢ pos 0
not_zero_by y x h zero_y = absurd (omega (arith, ints, subst (λ (z : ℤ). pos 0 <ℤ (z *ℤ x)) zero_y h, zero-mul x))
