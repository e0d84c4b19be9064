-- Products with a positive factor. They stand here and not in sc_algebra, where an edit would prove every crate anew.
use Rattle.std.specs.Prelude.{◌≡◌, ◌+◌, ℤ, pos, negsuc, ◌*ℤ◌, ◌≤ℤ◌, ◌<ℤ◌}
use Rattle.std.proofs.Common.{arith, inl, inr}
use Rattle.std.proofs.lemmas.Int.{ints}
use Rattle.std.proofs.lemmas.Bool.{cases_lt}
use borrow.Author.Differences.{up, down}
use Rattle.sc_algebra.proofs.Ints.{cancel_factor, cancel_le, mul-le_left}

pub cancel_pos : (z a b : ℤ) → pos 0 <ℤ z → z *ℤ a ≡ z *ℤ b → a ≡ b
cancel_pos z a b p e = cancel_factor z a b (λ (h : z ≡ pos 0). let bad : ⊥ = omega (arith, ints) in bad) e

pub mul_le : (z a b : ℤ) → pos 0 <ℤ z → a ≤ℤ b → (z *ℤ a) ≤ℤ (z *ℤ b)
mul_le (pos n) a b p h = mul-le_left n a b h
mul_le (negsuc n) a b p h = absurd (omega (arith, ints))

pub le_of_mul : (z a b : ℤ) → pos 0 <ℤ z → (z *ℤ a) ≤ℤ (z *ℤ b) → a ≤ℤ b
le_of_mul (pos n) a b p h = cancel_le n a b (omega (arith, ints)) h
le_of_mul (negsuc n) a b p h = absurd (omega (arith, ints))

pub not_le : (a b : ℤ) → (b ≤ℤ a → ⊥) → a <ℤ b
not_le a b h =
    elim (cases_lt (up a + down b) (up b + down a)) [ inl l ↦ omega (arith, ints) | inr g ↦ absurd (h (omega (arith, ints))) ]

pub mul_lt : (z a b : ℤ) → pos 0 <ℤ z → a <ℤ b → (z *ℤ a) <ℤ (z *ℤ b)
mul_lt z a b p h = not_le (z *ℤ a) (z *ℤ b) (λ k. let back : b ≤ℤ a = le_of_mul z b a p k in omega (arith, ints))

pub lt_of_mul : (z a b : ℤ) → pos 0 <ℤ z → (z *ℤ a) <ℤ (z *ℤ b) → a <ℤ b
lt_of_mul z a b p h = not_le a b (λ k. let back : (z *ℤ b) ≤ℤ (z *ℤ a) = mul_le z b a p k in omega (arith, ints))

pub mul_pos : (a b : ℤ) → pos 0 <ℤ a → pos 0 <ℤ b → pos 0 <ℤ (a *ℤ b)
mul_pos a b p q = let h : (a *ℤ pos 0) <ℤ (a *ℤ b) = mul_lt a (pos 0) b p q in omega (arith, ints)

-- where a product and one of its factors are positive, so is the other
pub pos_of_mul : (a b : ℤ) → pos 0 <ℤ a → pos 0 <ℤ (a *ℤ b) → pos 0 <ℤ b
pos_of_mul a b p h = lt_of_mul a (pos 0) b p (let e : a *ℤ pos 0 ≡ pos 0 = omega (arith, ints) in omega (arith, ints))
