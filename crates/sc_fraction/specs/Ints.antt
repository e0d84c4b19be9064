-- Laws of sums and products of whole numbers.
use Rattle.std.proofs.Common.{◌≡◌, ℕ, suc, ◌+◌, ◌*◌, ℤ, pos, negsuc, ◌*ℤ◌, ◌<ℤ◌, refl, sym, ap, ◌∙◌, arith, Ordering, Less, Equal, Greater, unsigned_abs, mul-le-mul_left, ◌≤◌}
use Rattle.std.specs.Ordering.{int_cmp, MatchOrdering}
use Rattle.std.proofs.lemmas.Cmp.{int_ranked}
use lib.IntN.{*ℤ_comm}
use Rattle.std.proofs.lemmas.Int.{ints}
use borrow.Author.Differences.{up, down, product_is}

pub mul_assoc_z : (a b c : ℤ) → (a *ℤ b) *ℤ c ≡ a *ℤ (b *ℤ c)
mul_assoc_z a b c =
    omega (
      arith,
      ints,
      ap (λ (t : ℕ). t * up c) (product_is a b).0,
      ap (λ (t : ℕ). t * down c) (product_is a b).0,
      ap (λ (t : ℕ). t * up c) (product_is a b).1,
      ap (λ (t : ℕ). t * down c) (product_is a b).1,
      ap (λ (t : ℕ). up a * t) (product_is b c).0,
      ap (λ (t : ℕ). down a * t) (product_is b c).0,
      ap (λ (t : ℕ). up a * t) (product_is b c).1,
      ap (λ (t : ℕ). down a * t) (product_is b c).1,
    )

-- the outer factors of a product of three change places
pub swap_outer : (a b c : ℤ) → a *ℤ (b *ℤ c) ≡ c *ℤ (b *ℤ a)
swap_outer a b c = *ℤ_comm a (b *ℤ c) ∙ ap (λ (t : ℤ). t *ℤ a) (*ℤ_comm b c) ∙ mul_assoc_z c b a

-- a factor above 0 keeps the order
pub mul-lt_z : (k x y : ℤ) → pos 0 <ℤ k → x <ℤ y → (k *ℤ x) <ℤ (k *ℤ y)
mul-lt_z (pos m) x y some h =
    let more : suc (up x + down y) ≤ up y + down x = omega (arith, ints) in
    let factor : 1 ≤ m = omega (arith, ints) in
    omega (arith, ints, mul-le-mul_left m more)
mul-lt_z (negsuc m) x y some h = absurd (omega (arith, ints))

pub int_cmp_less : (x y : ℤ) → x <ℤ y → int_cmp x y ≡ Less
int_cmp_less x y h = grind (arith, ints)

int_cmp_greater : (x y : ℤ) → y <ℤ x → int_cmp x y ≡ Greater
int_cmp_greater x y h = grind (arith, ints)

pub int_cmp_same : (x y : ℤ) → x ≡ y → int_cmp x y ≡ Equal
int_cmp_same x y h = grind (arith, ints)

scaled : (k x y : ℤ) (o : Ordering) → pos 0 <ℤ k → MatchOrdering o (x <ℤ y) (x ≡ y) (y <ℤ x) → int_cmp (k *ℤ x) (k *ℤ y) ≡ o
scaled k x y Less some h = int_cmp_less _ _ (mul-lt_z k x y some h)
scaled k x y Equal some h = int_cmp_same _ _ (ap (λ (t : ℤ). k *ℤ t) h)
scaled k x y Greater some h = int_cmp_greater _ _ (mul-lt_z k y x some h)

pub int_cmp_scaled : (k x y : ℤ) → pos 0 <ℤ k → int_cmp (k *ℤ x) (k *ℤ y) ≡ int_cmp x y
int_cmp_scaled k x y some = scaled k x y (int_cmp x y) some (int_ranked x y (int_cmp x y) refl)

at_equal : (x y : ℤ) (o : Ordering) → MatchOrdering o (x <ℤ y) (x ≡ y) (y <ℤ x) → o ≡ Equal → x ≡ y
at_equal x y Less h e = cc
at_equal x y Equal h e = h
at_equal x y Greater h e = cc

pub same_from_int_cmp : (x y : ℤ) → int_cmp x y ≡ Equal → x ≡ y
same_from_int_cmp x y e = at_equal x y (int_cmp x y) (int_ranked x y (int_cmp x y) refl) e

at_less : (x y : ℤ) (o : Ordering) → MatchOrdering o (x <ℤ y) (x ≡ y) (y <ℤ x) → o ≡ Less → x <ℤ y
at_less x y Less h e = h
at_less x y Equal h e = absurd (cc)
at_less x y Greater h e = absurd (cc)

pub less_from_int_cmp : (x y : ℤ) → int_cmp x y ≡ Less → x <ℤ y
less_from_int_cmp x y e = at_less x y (int_cmp x y) (int_ranked x y (int_cmp x y) refl) e

-- a factor above 0 is cancelled
pub mul_cancel_z : (k x y : ℤ) → pos 0 <ℤ k → k *ℤ x ≡ k *ℤ y → x ≡ y
mul_cancel_z k x y some e = same_from_int_cmp x y (sym (int_cmp_scaled k x y some) ∙ int_cmp_same _ _ e)

-- two numbers above 0 of one size are one
pub same_from_size : (x y : ℤ) → pos 0 <ℤ x → pos 0 <ℤ y → unsigned_abs x ≡ unsigned_abs y → x ≡ y
same_from_size x y p q e = omega (arith, ints)
