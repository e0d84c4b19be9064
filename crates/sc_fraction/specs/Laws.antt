-- Laws of fractions: equal values are equal fractions, and their order is total.
use Rattle.std.specs.Prelude.{◌≡◌, ℕ, Bool, true, false, ◌&&◌, ◌*◌, ℤ, pos, ◌*ℤ◌, ◌<ℤ◌, unsigned_abs}
use Rattle.std.proofs.Common.{sym, refl, ap, ap₂, ◌∙◌, subst, subst₂, arith, mul_comm, Less, Equal, true≢false}
use Rattle.std.specs.Cmp.{IsTotalOrder, IsPartialOrder, partial_order_from_agreeing_total, both_ways, Equal-is}
use Rattle.std.specs.Int.{◌∣◌, IsGcd}
use Rattle.std.specs.Ordering.{int_cmp, int_eq, is_eq, eq_by_cmp, as_partial_cmp}
use Rattle.std.proofs.lemmas.Nat.Gcd.{dvd_antisymm, IsGcd-swap}
use Rattle.std.proofs.lemmas.Int.{ints, unsigned_abs-mul}
use Rattle.std.proofs.lemmas.Cmp.{int_cmp_total}
use Rattle.std.proofs.Math.Nat.{dvd-mul_left}
use lib.IntN.{*ℤ_comm}
use Rattle.sc_whole.proofs.DivisorLaws.{dvd_of_dvd-mul}
use Rattle.sc_fraction.specs.Quotient.{SameQuotient}
use Rattle.sc_fraction.specs.Frac.{numerator, denominator, frac_cmp}
use Rattle.sc_fraction.specs.Ints.{swap_outer, mul-lt_z, int_cmp_scaled, int_cmp_same, int_cmp_less, same_from_int_cmp, less_from_int_cmp, mul_cancel_z, same_from_size}
use Rattle.sc_fraction.specs.declared.frac.Frac.{Frac}

-- equal quotients in lowest terms have one denominator, and one numerator

divides_across : (a b c e : ℕ) → IsGcd a b 1 → a * e ≡ c * b → b ∣ e
divides_across a b c e coprime same = dvd_of_dvd-mul b a e (IsGcd-swap a b 1 coprime) (subst (λ n. b ∣ n) (sym same ∙ mul_comm a e) (dvd-mul_left b c))

sizes : (a b c e : ℤ) → SameQuotient a b c e → unsigned_abs a * unsigned_abs e ≡ unsigned_abs c * unsigned_abs b
sizes a b c e same = sym (unsigned_abs-mul a e) ∙ ap unsigned_abs same ∙ unsigned_abs-mul c b

pub same_denominator : (x y : Frac) → SameQuotient (numerator x) (denominator x) (numerator y) (denominator y) → denominator x ≡ denominator y
same_denominator x y same =
    let across = sizes x.num x.den y.num y.den same in
    same_from_size x.den y.den x.positive y.positive
    (dvd_antisymm (divides_across _ _ (unsigned_abs y.num) _ x.reduced across) (divides_across _ _ (unsigned_abs x.num) _ y.reduced (sym across)))

pub same_numerator : (x y : Frac) → SameQuotient (numerator x) (denominator x) (numerator y) (denominator y) → numerator x ≡ numerator y
same_numerator x y same =
    mul_cancel_z y.den x.num y.num y.positive
    (*ℤ_comm y.den x.num ∙ same ∙ ap (λ (t : ℤ). y.num *ℤ t) (same_denominator x y same) ∙ *ℤ_comm y.num y.den)

-- the order

lt_chain : (x y z : ℤ) → x <ℤ y → y <ℤ z → x <ℤ z
lt_chain x y z h k = omega (arith, ints)

quotient_trans : (a b c e p q : ℤ) → pos 0 <ℤ b → pos 0 <ℤ e → pos 0 <ℤ q
    → int_cmp (a *ℤ e) (c *ℤ b) ≡ Less → int_cmp (c *ℤ q) (p *ℤ e) ≡ Less → int_cmp (a *ℤ q) (p *ℤ b) ≡ Less
quotient_trans a b c e p q b_pos e_pos q_pos first second =
    let low : (e *ℤ (a *ℤ q)) <ℤ (q *ℤ (c *ℤ b)) =
    subst (λ (t : ℤ). t <ℤ (q *ℤ (c *ℤ b))) (sym (swap_outer e a q)) (mul-lt_z q _ _ q_pos (less_from_int_cmp _ _ first)) in
    let high : (q *ℤ (c *ℤ b)) <ℤ (e *ℤ (p *ℤ b)) =
    subst₂ (λ (s t : ℤ). s <ℤ t) (sym (swap_outer q c b)) (swap_outer b p e) (mul-lt_z b _ _ b_pos (less_from_int_cmp _ _ second)) in
    sym (int_cmp_scaled e (a *ℤ q) (p *ℤ b) e_pos) ∙ int_cmp_less _ _ (lt_chain _ _ _ low high)

quotient_congr : (a b c e p q : ℤ) → pos 0 <ℤ b → pos 0 <ℤ e
    → int_cmp (a *ℤ e) (c *ℤ b) ≡ Equal → int_cmp (a *ℤ q) (p *ℤ b) ≡ int_cmp (c *ℤ q) (p *ℤ e)
quotient_congr a b c e p q b_pos e_pos same =
    let across : e *ℤ (a *ℤ q) ≡ b *ℤ (c *ℤ q) =
    swap_outer e a q ∙ ap (λ (t : ℤ). q *ℤ t) (same_from_int_cmp _ _ same) ∙ swap_outer q c b in
    sym (int_cmp_scaled e (a *ℤ q) (p *ℤ b) e_pos) ∙ ap₂ int_cmp across (swap_outer e p b) ∙ int_cmp_scaled b (c *ℤ q) (p *ℤ e) b_pos

pub frac_cmp_total : IsTotalOrder frac_cmp
frac_cmp_total = record {
  antisymm = λ x y. int_cmp_total.antisymm (numerator x *ℤ denominator y) (numerator y *ℤ denominator x);
  trans = λ x y z first second. quotient_trans x.num x.den y.num y.den z.num z.den x.positive y.positive z.positive first second;
  congr = λ x y z same. quotient_congr x.num x.den y.num y.den z.num z.den x.positive y.positive same;
}

-- `==` on the two fields holds where the order is `Equal`
and_true : (s t : Bool) → (s && t) ≡ true → (s ≡ true) × (t ≡ true)
and_true true true h = (refl, refl)
and_true true false h = (refl, h)
and_true false t h = absurd (true≢false (sym h))

both_true : (s t : Bool) → s ≡ true → t ≡ true → (s && t) ≡ true
both_true s t p q = λ i. p i && q i

same_number : (m n : ℤ) → int_eq m n ≡ true → m ≡ n
same_number m n h = same_from_int_cmp m n ((Equal-is (int_cmp m n)).0 h)

pub frac_eq_is : (x y : Frac) → (int_eq (numerator x) (numerator y) && int_eq (denominator x) (denominator y)) ≡ eq_by_cmp frac_cmp x y
frac_eq_is x y = both_ways (int_eq (numerator x) (numerator y) && int_eq (denominator x) (denominator y)) (is_eq (frac_cmp x y))
    (λ h.
    let fields = and_true (int_eq (numerator x) (numerator y)) (int_eq (denominator x) (denominator y)) h in
    let p = same_number (numerator x) (numerator y) fields.0 in
    let q = same_number (denominator x) (denominator y) fields.1 in
    ap is_eq (int_cmp_same (numerator x *ℤ denominator y) (numerator y *ℤ denominator x) (λ i. p i *ℤ sym q i)))
    (λ h.
    let same = same_from_int_cmp (numerator x *ℤ denominator y) (numerator y *ℤ denominator x) ((Equal-is (frac_cmp x y)).0 h) in
    both_true _ _ (ap is_eq (int_cmp_same (numerator x) (numerator y) (same_numerator x y same))) (ap is_eq (int_cmp_same (denominator x) (denominator y) (same_denominator x y same))))

pub frac_partial_order : IsPartialOrder (λ x y. int_eq (numerator x) (numerator y) && int_eq (denominator x) (denominator y)) (as_partial_cmp frac_cmp)
frac_partial_order = partial_order_from_agreeing_total frac_cmp frac_cmp_total (λ x y. refl) frac_eq_is
