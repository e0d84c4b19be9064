-- Products of lists: linear in each factor; the product with a unit is an entry.
use Rattle.std.specs.Prelude.{◌≡◌, ◌≢◌, ℕ, ◌<◌, ℤ, pos, ◌+ℤ◌, ◌*ℤ◌}
use Rattle.std.proofs.Common.{arith, refl, ap₂, ◌∙◌, eq-eqb, ne_eqb}
use Rattle.std.proofs.lemmas.Int.{ints}
use Rattle.sc_algebra.proofs.Sums.{sum-congr, sum-add, sum-mul_left, sum-single}
use Rattle.sc_algebra.proofs.Ints.{products, mul_comm}
use Rattle.sc_basis.specs.Products.{dot, unit}

pub unit_same : (i : ℕ) → unit i i ≡ pos 1
unit_same i = rw (eq-eqb i i refl) refl

pub unit_other : (i k : ℕ) → k ≢ i → unit i k ≡ pos 0
unit_other i k apart = rw (ne_eqb k i apart) refl

pub dot-turned : (r : ℕ) (x y : ℕ → ℤ) → dot r x y ≡ dot r y x
dot-turned r x y = sum-congr (λ k. x k *ℤ y k) (λ k. y k *ℤ x k) r (λ k l. mul_comm (x k) (y k))

-- the product with a unit is an entry
pub dot-unit : (r j : ℕ) (x : ℕ → ℤ) → j < r → dot r x (unit j) ≡ x j
dot-unit r j x inside =
    sum-single (λ k. x k *ℤ unit j k) r j inside (λ k l apart. rw (unit_other j k apart) (omega (arith, ints)))
    ∙ rw (unit_same j) (omega (arith, ints))

-- lists with the same entries have the same products
pub dot-congr : (r : ℕ) (x y v w : ℕ → ℤ) → ((k : ℕ) → k < r → x k ≡ y k) → ((k : ℕ) → k < r → v k ≡ w k) → dot r x v ≡ dot r y w
dot-congr r x y v w e f = sum-congr (λ k. x k *ℤ v k) (λ k. y k *ℤ w k) r (λ k l. ap₂ (λ (s t : ℤ). s *ℤ t) (e k l) (f k l))

-- a product is linear in its first factor
pub dot-add : (r : ℕ) (x y v : ℕ → ℤ) → dot r (λ k. x k +ℤ y k) v ≡ dot r x v +ℤ dot r y v
dot-add r x y v =
    sum-congr (λ k. (x k +ℤ y k) *ℤ v k) (λ k. x k *ℤ v k +ℤ y k *ℤ v k) r (λ k l. simp products (omega (arith, ints)))
    ∙ sum-add (λ k. x k *ℤ v k) (λ k. y k *ℤ v k) r

pub dot-mul : (r : ℕ) (a : ℤ) (x v : ℕ → ℤ) → dot r (λ k. a *ℤ x k) v ≡ a *ℤ dot r x v
dot-mul r a x v =
    sum-congr (λ k. (a *ℤ x k) *ℤ v k) (λ k. a *ℤ (x k *ℤ v k)) r (λ k l. simp products (omega (arith, ints)))
    ∙ sum-mul_left a (λ k. x k *ℤ v k) r

-- a x + b y
pub dot-combine : (r : ℕ) (a b : ℤ) (x y v : ℕ → ℤ) → dot r (λ k. a *ℤ x k +ℤ b *ℤ y k) v ≡ a *ℤ dot r x v +ℤ b *ℤ dot r y v
dot-combine r a b x y v =
    dot-add r (λ k. a *ℤ x k) (λ k. b *ℤ y k) v ∙ ap₂ (λ (s t : ℤ). s +ℤ t) (dot-mul r a x v) (dot-mul r b y v)
