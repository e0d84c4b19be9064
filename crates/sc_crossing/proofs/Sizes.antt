-- The sizes of the numbers of a form.
use Rattle.std.proofs.Common.{ℕ, ◌*◌, ◌≤◌, ℤ, pos, ◌+ℤ◌, ◌-ℤ◌, ◌*ℤ◌, unsigned_abs, arith}
use Rattle.std.proofs.lemmas.Int.{ints, unsigned_abs-mul}
use Rattle.std.proofs.Math.Nat.{mul-le-mul_left, mul-le-mul_right}
use Rattle.sc_certificate.proofs.BoundSums.{most_price}

pub difference_size : (k : ℕ) (x y : ℤ) → unsigned_abs x ≤ k * most_price → unsigned_abs y ≤ k * most_price → unsigned_abs (x -ℤ (y +ℤ y)) ≤ (3 * k) * most_price
difference_size k x y a b = omega (arith, ints)

pub scaled_size : (d : ℤ) (k : ℕ) → unsigned_abs d ≤ most_price → unsigned_abs (d *ℤ pos k) ≤ k * most_price
scaled_size d k small =
    let most : unsigned_abs d * k ≤ most_price * k = mul-le-mul_right k small in
    omega (arith, most, unsigned_abs-mul d (pos k))

pub times_size : (a k : ℕ) (z : ℤ) → unsigned_abs z ≤ k * most_price → unsigned_abs (pos a *ℤ z) ≤ (a * k) * most_price
times_size a k z small =
    let most : a * unsigned_abs z ≤ a * (k * most_price) = mul-le-mul_left a small in
    omega (arith, most, unsigned_abs-mul (pos a) z)
