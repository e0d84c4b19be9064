-- Laws of products of whole numbers.
use Rattle.std.specs.Prelude.{◌≡◌, ℕ, zero, suc, ◌+◌, ◌*◌, ◌<◌, ℤ, pos, negsuc, ◌+ℤ◌, ◌-ℤ◌, ◌*ℤ◌, neg_ℤ, ◌≤ℤ◌}
use Rattle.std.proofs.Common.{arith, refl, sym, ap, ◌∙◌, ◌≤◌, mul-le-mul_left}
use Rattle.std.proofs.lemmas.Int.{ints}
use borrow.Author.Differences.{up, down, sum_is_lem, product_is, neg_is, le_out}
use native.Mathlib.Nat.{le_of_mul-le-mul_left}
use lib.IntN.{neg_ℤ-+ℤ, neg_ℤ-neg_ℤ}

pub mul_comm : (a b : ℤ) → a *ℤ b ≡ b *ℤ a
mul_comm a b = omega (arith, ints)

pub mul_add : (a b c : ℤ) → a *ℤ (b +ℤ c) ≡ a *ℤ b +ℤ a *ℤ c
mul_add a b c = omega (arith, ints, ap (λ (t : ℕ). up a * t) (sum_is_lem b c), ap (λ (t : ℕ). down a * t) (sum_is_lem b c))

pub add_mul : (a b c : ℤ) → (a +ℤ b) *ℤ c ≡ a *ℤ c +ℤ b *ℤ c
add_mul a b c = omega (arith, ints, ap (λ (t : ℕ). up c * t) (sum_is_lem a b), ap (λ (t : ℕ). down c * t) (sum_is_lem a b))

pub mul_neg : (a b : ℤ) → a *ℤ neg_ℤ b ≡ neg_ℤ (a *ℤ b)
mul_neg a b =
    omega (arith, ints, ap (λ (t : ℕ). up a * t) (neg_is b).0, ap (λ (t : ℕ). down a * t) (neg_is b).0, ap (λ (t : ℕ). up a * t) (neg_is b).1, ap (λ (t : ℕ). down a * t) (neg_is b).1)

pub neg_mul : (a b : ℤ) → neg_ℤ a *ℤ b ≡ neg_ℤ (a *ℤ b)
neg_mul a b = omega (arith, ints, mul_comm (neg_ℤ a) b, mul_neg b a, mul_comm a b)

pub mul_sub : (a b c : ℤ) → a *ℤ (b -ℤ c) ≡ a *ℤ b -ℤ a *ℤ c
mul_sub a b c = omega (arith, ints, mul_add a b (neg_ℤ c), mul_neg a c)

pub sub_mul : (a b c : ℤ) → (a -ℤ b) *ℤ c ≡ a *ℤ c -ℤ b *ℤ c
sub_mul a b c = omega (arith, ints, add_mul a (neg_ℤ b) c, neg_mul b c)

pub mul_assoc : (a b c : ℤ) → (a *ℤ b) *ℤ c ≡ a *ℤ (b *ℤ c)
mul_assoc a b c =
    omega (arith, ints, ap (λ (t : ℕ). up c * t) (product_is a b).0, ap (λ (t : ℕ). down c * t) (product_is a b).0, ap (λ (t : ℕ). up c * t) (product_is a b).1, ap (λ (t : ℕ). down c * t) (product_is a b).1, ap (λ (t : ℕ). up a * t) (product_is b c).0, ap (λ (t : ℕ). down a * t) (product_is b c).0, ap (λ (t : ℕ). up a * t) (product_is b c).1, ap (λ (t : ℕ). down a * t) (product_is b c).1)

pub mul_left_comm : (a b c : ℤ) → a *ℤ (b *ℤ c) ≡ b *ℤ (a *ℤ c)
mul_left_comm a b c = sym (mul_assoc a b c) ∙ ap (λ (t : ℤ). t *ℤ c) (mul_comm a b) ∙ mul_assoc b a c

pub mul-zero : (a : ℤ) → a *ℤ pos 0 ≡ pos 0
mul-zero a = omega (arith, ints)

pub zero-mul : (a : ℤ) → pos 0 *ℤ a ≡ pos 0
zero-mul a = omega (arith, ints)

pub mul-one : (a : ℤ) → a *ℤ pos 1 ≡ a
mul-one a = omega (arith, ints)

pub one-mul : (a : ℤ) → pos 1 *ℤ a ≡ a
one-mul a = omega (arith, ints)

pub pos-mul : (m n : ℕ) → pos (m * n) ≡ pos m *ℤ pos n
pos-mul m n = refl

pub pos-add : (m n : ℕ) → pos (m + n) ≡ pos m +ℤ pos n
pos-add m n = refl

pub suc-mul : (n : ℕ) (a : ℤ) → pos (suc n) *ℤ a ≡ pos n *ℤ a +ℤ a
suc-mul n a = omega (arith, ints)

-- ---- order
pub le_trans : (a b c : ℤ) → a ≤ℤ b → b ≤ℤ c → a ≤ℤ c
le_trans a b c h k = omega (arith, ints)

pub le_antisymm : (a b : ℤ) → a ≤ℤ b → b ≤ℤ a → a ≡ b
le_antisymm a b h k = omega (arith, ints)

pub le_of_eq : (a b : ℤ) → a ≡ b → a ≤ℤ b
le_of_eq a b h = omega (arith, ints)

-- as whole numbers natural numbers are in the order that they were in, and no two become the same
pub pos-le : (m n : ℕ) → m ≤ n → pos m ≤ℤ pos n
pos-le m n h = omega (arith, ints)

pub le-pos : (m n : ℕ) → pos m ≤ℤ pos n → m ≤ n
le-pos m n h = omega (arith, ints)

pub same-pos : (m n : ℕ) → pos m ≡ pos n → m ≡ n
same-pos m n h = omega (arith, ints)

-- a number that equals its negative is 0
pub zero_from_neg : (a : ℤ) → a ≡ neg_ℤ a → a ≡ pos 0
zero_from_neg a h = omega (arith, ints)

-- an inequality, times a natural number
pub mul-le_left : (n : ℕ) (a b : ℤ) → a ≤ℤ b → (pos n *ℤ a) ≤ℤ (pos n *ℤ b)
mul-le_left n a b h = omega (arith, ints, mul-le-mul_left n (le_out a b h))

pub mul-le_right : (n : ℕ) (a b : ℤ) → a ≤ℤ b → (a *ℤ pos n) ≤ℤ (b *ℤ pos n)
mul-le_right n a b h = omega (arith, ints, mul-le-mul_left n (le_out a b h))

-- the same at a factor that is not negative
pub mul-le_factor : (d a b : ℤ) → pos 0 ≤ℤ d → a ≤ℤ b → (d *ℤ a) ≤ℤ (d *ℤ b)
mul-le_factor (pos n) a b p h = mul-le_left n a b h
mul-le_factor (negsuc n) a b p h = absurd (omega (arith, ints))

-- a positive factor of both sides can be taken away
pub cancel_le : (n : ℕ) (a b : ℤ) → 0 < n → (pos n *ℤ a) ≤ℤ (pos n *ℤ b) → a ≤ℤ b
cancel_le n a b p h =
    let k : up a + down b ≤ up b + down a = le_of_mul-le-mul_left {m = up a + down b} {n = up b + down a} {k = n} (omega (arith, ints)) p in
    omega (arith, ints)

pub cancel : (n : ℕ) (a b : ℤ) → 0 < n → pos n *ℤ a ≡ pos n *ℤ b → a ≡ b
cancel n a b p h = le_antisymm a b (cancel_le n a b p (le_of_eq (pos n *ℤ a) (pos n *ℤ b) h)) (cancel_le n b a p (le_of_eq (pos n *ℤ b) (pos n *ℤ a) (sym h)))

-- a factor that is not 0
pub cancel_factor : (d a b : ℤ) → (d ≡ pos 0 → ⊥) → d *ℤ a ≡ d *ℤ b → a ≡ b
cancel_factor (pos zero) a b p h = absurd (p refl)
cancel_factor (pos (suc n)) a b p h = cancel (suc n) a b (omega arith) h
cancel_factor (negsuc n) a b p h = cancel (suc n) a b (omega arith) (omega (arith, ints))

-- ---- For `simp`: a sum of products, each bracketed to the right with its factors in one order. What is then left is
-- linear in the products: `simp products (omega (arith, ints))`.
pub ruleset products = (mul_add, add_mul, mul_neg, neg_mul, neg_ℤ-+ℤ, neg_ℤ-neg_ℤ, mul_assoc, mul_comm, mul_left_comm)
