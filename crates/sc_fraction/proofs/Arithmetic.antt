-- Sums, products and ratios of quotients, by cross products.
use Rattle.std.proofs.Common.{◌≡◌, ℕ, zero, suc, ◌*◌, ◌<◌, List, [], ◌∷◌, ◌++◌, ℤ, pos, negsuc, ◌+ℤ◌, ◌-ℤ◌, ◌*ℤ◌, neg_ℤ, ◌<ℤ◌, unsigned_abs, int_div, inr, refl, sym, ap, ap₂, ◌∙◌, subst, subst₂, arith, mul-one, mul_comm}
use Rattle.std.specs.Int.{◌∣◌, IsGcd}
use Rattle.std.proofs.lemmas.Int.{ints, unsigned_abs-mul}
use Rattle.std.proofs.lemmas.Nat.Gcd.{dvd_trans, same_from_IsGcd, IsGcd-swap}
use Rattle.std.proofs.Math.Nat.{one-dvd, dvd-mul_left, mul-dvd-mul_left, dvd_of_mul-dvd-mul_left}
use lib.IntN.{*ℤ_comm, *ℤ-zero}
use Rattle.sc_whole.specs.declared.checked.Wide.{Wide}
use Rattle.sc_whole.specs.Operation.{AllFit, IsFirstWide}
use Rattle.sc_whole.proofs.DivisorLaws.{dvd_of_dvd-mul}
use Rattle.sc_fraction.specs.Ints.{mul_assoc_z, mul_cancel_z}
use Rattle.sc_fraction.specs.Quotient.{SameQuotient}
use Rattle.sc_fraction.specs.Steps.{turn}
use borrow.Author.Differences.{up, down, sum_is_lem, neg_is}

-- products over sums, by the two parts of each number
pub mul-add_z : (a b c : ℤ) → a *ℤ (b +ℤ c) ≡ (a *ℤ b) +ℤ (a *ℤ c)
mul-add_z a b c = omega (arith, ints, ap (λ (t : ℕ). up a * t) (sum_is_lem b c), ap (λ (t : ℕ). down a * t) (sum_is_lem b c))

pub mul-neg_z : (a b : ℤ) → a *ℤ neg_ℤ b ≡ neg_ℤ (a *ℤ b)
mul-neg_z a b =
    omega (
      arith,
      ints,
      ap (λ (t : ℕ). up a * t) (neg_is b).0,
      ap (λ (t : ℕ). down a * t) (neg_is b).0,
      ap (λ (t : ℕ). up a * t) (neg_is b).1,
      ap (λ (t : ℕ). down a * t) (neg_is b).1,
    )

pub mul-sub_z : (a b c : ℤ) → a *ℤ (b -ℤ c) ≡ (a *ℤ b) -ℤ (a *ℤ c)
mul-sub_z a b c = mul-add_z a b (neg_ℤ c) ∙ ap (λ (t : ℤ). (a *ℤ b) +ℤ t) (mul-neg_z a c)

-- a fact on quotients by a greatest common divisor holds at each name of that divisor
pub at_gcd : (P : ℤ → ℤ → Type 0) (b e s t : ℤ) (d g : ℕ) → IsGcd (unsigned_abs b) (unsigned_abs e) d → IsGcd (unsigned_abs b) (unsigned_abs e) g
    → s ≡ int_div e (pos d) → t ≡ int_div b (pos d) → P s t → P (int_div e (pos g)) (int_div b (pos g))
at_gcd P b e s t d g h k p q holds =
    let same = same_from_IsGcd (unsigned_abs b) (unsigned_abs e) d g h k in
    subst₂ P (p ∙ ap (λ n. int_div e (pos n)) same) (q ∙ ap (λ n. int_div b (pos n)) same) holds

-- lowest terms

-- two numbers divided by one number have the quotient that they had
pub divided_quotient : (num den p q : ℤ) (g : ℕ) → pos g *ℤ p ≡ num → pos g *ℤ q ≡ den → SameQuotient p q num den
divided_quotient num den p q g hp hq =
    ap (λ (t : ℤ). p *ℤ t) (sym hq) ∙ sym (mul_assoc_z p (pos g) q) ∙ ap (λ (t : ℤ). t *ℤ q) (*ℤ_comm p (pos g) ∙ hp)

-- a quotient by a number above 0 keeps its sign
pub divided_positive : (g : ℕ) (q den : ℤ) → pos g *ℤ q ≡ den → pos 0 <ℤ den → pos 0 <ℤ q
divided_positive g (pos zero) den e h = absurd (omega (arith, ints))
divided_positive g (pos (suc n)) den e h = omega (arith, ints)
divided_positive g (negsuc n) den e h = absurd (omega (arith, ints))

coprime_sizes : (g p q : ℕ) → 0 < g → IsGcd (g * p) (g * q) g → IsGcd p q 1
coprime_sizes g p q some h = (
  one-dvd p,
  one-dvd q,
  λ d of_p of_q. dvd_of_mul-dvd-mul_left d some (subst (λ n. g * d ∣ n) (sym (mul-one g)) (h.2 (g * d) (mul-dvd-mul_left d g of_p) (mul-dvd-mul_left d g of_q))),
)

size_of_product : (g : ℕ) (p num : ℤ) → pos g *ℤ p ≡ num → unsigned_abs num ≡ g * unsigned_abs p
size_of_product g p num e = ap unsigned_abs (sym e) ∙ unsigned_abs-mul (pos g) p

-- what is left after the division by the greatest common divisor has no divisor in common
pub divided_coprime : (num den p q : ℤ) (g : ℕ) → 0 < g → pos g *ℤ p ≡ num → pos g *ℤ q ≡ den
    → IsGcd (unsigned_abs num) (unsigned_abs den) g → IsGcd (unsigned_abs p) (unsigned_abs q) 1
divided_coprime num den p q g some hp hq h =
    coprime_sizes g (unsigned_abs p) (unsigned_abs q) some (subst₂ (λ m n. IsGcd m n g) (size_of_product g p num hp) (size_of_product g q den hq) h)

pub size_positive : (z : ℤ) → pos 0 <ℤ z → 0 < unsigned_abs z
size_positive z h = omega (arith, ints)

-- signs

-- turning the sign leaves the size
pub size-neg : (z : ℤ) → unsigned_abs (neg_ℤ z) ≡ unsigned_abs z
size-neg (pos zero) = refl
size-neg (pos (suc n)) = refl
size-neg (negsuc n) = refl

plain_turn : (n : ℕ) (z : ℤ) → turn (pos n) z ≡ z
plain_turn n z = grind (arith, ints)

pub size-turn : (q z : ℤ) → unsigned_abs (turn q z) ≡ unsigned_abs z
size-turn (pos n) z = ap unsigned_abs (plain_turn n z)
size-turn (negsuc n) z = size-neg z

-- turned by its own sign, a number other than 0 is above 0
pub turn_positive : (q : ℤ) → ¬ (q ≡ pos 0) → pos 0 <ℤ turn q q
turn_positive (pos zero) h = absurd (h refl)
turn_positive (pos (suc n)) h = subst (λ (t : ℤ). pos 0 <ℤ t) (sym (plain_turn (suc n) (pos (suc n)))) (omega (arith, ints))
turn_positive (negsuc n) h = omega (arith, ints)

neg_mul : (a b : ℤ) → neg_ℤ a *ℤ b ≡ neg_ℤ (a *ℤ b)
neg_mul a b = *ℤ_comm (neg_ℤ a) b ∙ mul-neg_z b a ∙ ap neg_ℤ (*ℤ_comm b a)

-- a quotient whose two sides are turned by the sign of the second is the number that it was
pub turned_quotient : (p q num den : ℤ) → SameQuotient p q num den → SameQuotient (turn q p) (turn q q) num den
turned_quotient p (pos n) num den same = subst₂ (λ (s t : ℤ). SameQuotient s t num den) (sym (plain_turn n p)) (sym (plain_turn n (pos n))) same
turned_quotient p (negsuc n) num den same = neg_mul p den ∙ ap neg_ℤ same ∙ sym (mul-neg_z num (negsuc n))

-- a quotient in lowest terms stays so where both sides are turned
pub turned_coprime : (p q : ℤ) → IsGcd (unsigned_abs p) (unsigned_abs q) 1 → IsGcd (unsigned_abs (turn q p)) (unsigned_abs (turn q q)) 1
turned_coprime p q h = subst₂ (λ m n. IsGcd m n 1) (sym (size-turn q p)) (sym (size-turn q q)) h

-- sums

-- the sum over the least common denominator, times the greatest common divisor, is the sum over the product
common : (a e scale : ℤ) (g : ℕ) → pos g *ℤ scale ≡ e → pos g *ℤ (a *ℤ scale) ≡ a *ℤ e
common a e scale g h = sym (mul_assoc_z (pos g) a scale) ∙ ap (λ (t : ℤ). t *ℤ scale) (*ℤ_comm (pos g) a) ∙ mul_assoc_z a (pos g) scale ∙ ap (λ (t : ℤ). a *ℤ t) h

-- f is s/d, and g times s and d are num and den: f is num/den
pub scaled_quotient : (n m s d num den : ℤ) (g : ℕ) → pos g *ℤ s ≡ num → pos g *ℤ d ≡ den → SameQuotient n m s d → SameQuotient n m num den
scaled_quotient n m s d num den g hs hd same =
    ap (λ (t : ℤ). n *ℤ t) (sym hd) ∙ out n ∙ ap (λ (t : ℤ). pos g *ℤ t) same ∙ sym (mul_assoc_z (pos g) s m) ∙ ap (λ (t : ℤ). t *ℤ m) hs
  where
    out : (x : ℤ) → x *ℤ (pos g *ℤ d) ≡ pos g *ℤ (x *ℤ d)
    out x = sym (mul_assoc_z x (pos g) d) ∙ ap (λ (t : ℤ). t *ℤ d) (*ℤ_comm x (pos g)) ∙ mul_assoc_z (pos g) x d

-- a number that is a sum over a common denominator is the sum over the product of the denominators
pub sum_quotient : (n m a b c e scale other : ℤ) (g : ℕ) → pos g *ℤ scale ≡ e → pos g *ℤ other ≡ b
    → SameQuotient n m ((a *ℤ scale) +ℤ (c *ℤ other)) (b *ℤ scale) → SameQuotient n m ((a *ℤ e) +ℤ (c *ℤ b)) (b *ℤ e)
sum_quotient n m a b c e scale other g hs ho same =
    scaled_quotient n m ((a *ℤ scale) +ℤ (c *ℤ other)) (b *ℤ scale) ((a *ℤ e) +ℤ (c *ℤ b)) (b *ℤ e) g
    (mul-add_z (pos g) (a *ℤ scale) (c *ℤ other) ∙ ap₂ (λ (s t : ℤ). s +ℤ t) (common a e scale g hs) (common c b other g ho))
    (common b e scale g hs)
    same

-- the same of a difference
pub difference_quotient : (n m a b c e scale other : ℤ) (g : ℕ) → pos g *ℤ scale ≡ e → pos g *ℤ other ≡ b
    → SameQuotient n m ((a *ℤ scale) -ℤ (c *ℤ other)) (b *ℤ scale) → SameQuotient n m ((a *ℤ e) -ℤ (c *ℤ b)) (b *ℤ e)
difference_quotient n m a b c e scale other g hs ho same =
    scaled_quotient n m ((a *ℤ scale) -ℤ (c *ℤ other)) (b *ℤ scale) ((a *ℤ e) -ℤ (c *ℤ b)) (b *ℤ e) g
    (mul-sub_z (pos g) (a *ℤ scale) (c *ℤ other) ∙ ap₂ (λ (s t : ℤ). s -ℤ t) (common a e scale g hs) (common c b other g ho))
    (common b e scale g hs)
    same

pub mul_positive : (x y : ℤ) → pos 0 <ℤ x → pos 0 <ℤ y → pos 0 <ℤ (x *ℤ y)
mul_positive (pos zero) y p q = absurd (omega (arith, ints))
mul_positive (pos (suc m)) (pos zero) p q = absurd (omega (arith, ints))
mul_positive (pos (suc m)) (pos (suc n)) p q = grind (arith, ints)
mul_positive (pos (suc m)) (negsuc n) p q = absurd (omega (arith, ints))
mul_positive (negsuc m) y p q = absurd (omega (arith, ints))

-- products

shuffle : (w x y z : ℤ) → (w *ℤ x) *ℤ (y *ℤ z) ≡ (w *ℤ z) *ℤ (x *ℤ y)
shuffle w x y z =
    mul_assoc_z w x (y *ℤ z) ∙ ap (λ (t : ℤ). w *ℤ t) (sym (mul_assoc_z x y z) ∙ *ℤ_comm (x *ℤ y) z) ∙ sym (mul_assoc_z w z (x *ℤ y))

-- a/e and c/b divided crosswise: the quotient of the products is that of a/b and c/e
pub product_quotient : (a b c e p q r s : ℤ) → SameQuotient p s a e → SameQuotient q r c b → SameQuotient (p *ℤ q) (r *ℤ s) (a *ℤ c) (b *ℤ e)
product_quotient a b c e p q r s first second = shuffle p q b e ∙ ap₂ (λ (x y : ℤ). x *ℤ y) first second ∙ sym (shuffle a c r s)

coprime_part : (a p b q : ℕ) → p ∣ a → q ∣ b → IsGcd a b 1 → IsGcd p q 1
coprime_part a p b q of_a of_b h = (one-dvd p, one-dvd q, λ d u v. h.2 d (dvd_trans d u of_a) (dvd_trans d v of_b))

coprime_product : (x y m : ℕ) → IsGcd x m 1 → IsGcd y m 1 → IsGcd (x * y) m 1
coprime_product x y m p q = (
  one-dvd (x * y),
  one-dvd m,
  λ d of_product of_m. q.2 d (dvd_of_dvd-mul d x y (one-dvd d, one-dvd x, λ k u v. p.2 k v (dvd_trans k u of_m)) (subst (λ n. d ∣ n) (mul_comm x y) of_product)) of_m,
)

size_divides : (g : ℕ) (p num : ℤ) → pos g *ℤ p ≡ num → unsigned_abs p ∣ unsigned_abs num
size_divides g p num e = subst (λ n. unsigned_abs p ∣ n) (sym (size_of_product g p num e)) (dvd-mul_left (unsigned_abs p) g)

-- two fractions in lowest terms, divided crosswise by what they have in common, have a product in lowest terms
pub product_coprime : (a b c e p q r s : ℤ) (g h : ℕ) → pos g *ℤ p ≡ a → pos g *ℤ s ≡ e → pos h *ℤ q ≡ c → pos h *ℤ r ≡ b
    → 0 < g → 0 < h → IsGcd (unsigned_abs a) (unsigned_abs e) g → IsGcd (unsigned_abs c) (unsigned_abs b) h
    → IsGcd (unsigned_abs a) (unsigned_abs b) 1 → IsGcd (unsigned_abs c) (unsigned_abs e) 1
    → IsGcd (unsigned_abs (p *ℤ q)) (unsigned_abs (r *ℤ s)) 1
product_coprime a b c e p q r s g h hp hs hq hr g_pos h_pos gcd_g gcd_h own other =
    let pr = coprime_part _ (unsigned_abs p) _ (unsigned_abs r) (size_divides g p a hp) (size_divides h r b hr) own in
    let ps = divided_coprime a e p s g g_pos hp hs gcd_g in
    let qr = divided_coprime c b q r h h_pos hq hr gcd_h in
    let qs = coprime_part _ (unsigned_abs q) _ (unsigned_abs s) (size_divides h q c hq) (size_divides g s e hs) other in
    let pq_r = coprime_product (unsigned_abs p) (unsigned_abs q) (unsigned_abs r) pr qr in
    let pq_s = coprime_product (unsigned_abs p) (unsigned_abs q) (unsigned_abs s) ps qs in
    let all = coprime_product (unsigned_abs r) (unsigned_abs s) (unsigned_abs p * unsigned_abs q) (IsGcd-swap _ _ 1 pq_r) (IsGcd-swap _ _ 1 pq_s) in
    subst₂ (λ m n. IsGcd m n 1) (sym (unsigned_abs-mul p q)) (sym (unsigned_abs-mul r s)) (IsGcd-swap _ _ 1 all)

-- ratios

-- n/d is a/b times x/t, and x/t is e/c: n/d is a/b over c/e
pub ratio_quotient : (n d a b x t c e : ℤ) → pos 0 <ℤ t → SameQuotient x t e c → SameQuotient n d (a *ℤ x) (b *ℤ t) → SameQuotient n d (a *ℤ e) (b *ℤ c)
ratio_quotient n d a b x t c e t_pos turned product =
    mul_cancel_z t _ _ t_pos (
    *ℤ_comm t (n *ℤ (b *ℤ c)) ∙ mul_assoc_z n (b *ℤ c) t ∙ ap (λ (k : ℤ). n *ℤ k) (last_two b c t) ∙ sym (mul_assoc_z n (b *ℤ t) c)
    ∙ ap (λ (k : ℤ). k *ℤ c) product
    ∙ last_two (a *ℤ x) d c ∙ ap (λ (k : ℤ). k *ℤ d) (mul_assoc_z a x c ∙ ap (λ (k : ℤ). a *ℤ k) turned ∙ sym (mul_assoc_z a e t))
    ∙ last_two (a *ℤ e) t d ∙ *ℤ_comm ((a *ℤ e) *ℤ d) t
    )
  where
    last_two : (x y z : ℤ) → (x *ℤ y) *ℤ z ≡ (x *ℤ z) *ℤ y
    last_two x y z = mul_assoc_z x y z ∙ ap (λ (k : ℤ). x *ℤ k) (*ℤ_comm y z) ∙ sym (mul_assoc_z x z y)

-- steps one after another

pub AllFit-append : (xs ys : List Wide) → AllFit xs → AllFit ys → AllFit (xs ++ ys)
AllFit-append [] ys p q = q
AllFit-append (x ∷ xs) ys p q = (p.0, AllFit-append xs ys p.1 q)

-- where all steps before fit, the first wide one of those behind them is the first of all
pub first_wide_after : (xs ys : List Wide) (w : Wide) → AllFit xs → IsFirstWide ys w → IsFirstWide (xs ++ ys) w
first_wide_after [] ys w p h = h
first_wide_after (x ∷ xs) ys w p h = inr (p.0, first_wide_after xs ys w p.1 h)

-- numbers that aren't 0

pub size_nonzero : (z : ℤ) → ¬ (z ≡ pos 0) → 0 < unsigned_abs z
size_nonzero (pos zero) h = absurd (h refl)
size_nonzero (pos (suc n)) h = omega arith
size_nonzero (negsuc n) h = omega arith

-- a number other than 0, divided, isn't 0
pub divided_nonzero : (g : ℕ) (q den : ℤ) → pos g *ℤ q ≡ den → ¬ (den ≡ pos 0) → ¬ (q ≡ pos 0)
divided_nonzero g q den e h z = h (sym e ∙ ap (λ (t : ℤ). pos g *ℤ t) z ∙ *ℤ-zero (pos g))
