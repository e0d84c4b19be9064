-- Ratios in lowest terms by the greatest common divisor of their parts.
use Rattle.std.specs.Prelude.{◌≡◌, ℕ, ◌<◌, ℤ, pos, negsuc, ◌*ℤ◌, ◌<ℤ◌, unsigned_abs}
use Rattle.std.specs.Int.{IsGcd}
use Rattle.std.proofs.Common.{arith, subst}
use Rattle.sc_algebra.proofs.Ints.{one-mul}
use Rattle.sc_basis.specs.Products.{IsReduced}
use Rattle.std.proofs.lemmas.Int.{ints}
use Rattle.sc_whole.proofs.DivisorLaws.{IsGcd-pos}
use Rattle.sc_basis.specs.Divisors.{IsCommonDivisor}
use Rattle.sc_basis.specs.Rules.{IsLowest}
use Rattle.sc_basis.proofs.CommonDivisors.{divided_by}

size_positive : (m : ℤ) → pos 0 <ℤ m → 0 < unsigned_abs m
size_positive (pos n) h = omega (arith, ints)
size_positive (negsuc n) h = absurd (omega (arith, ints))

-- a positive number has a positive greatest common divisor with each other one
pub divisor_of_positive : (m a : ℤ) (g : ℕ) → pos 0 <ℤ m → IsGcd (unsigned_abs m) (unsigned_abs a) g → 0 < g
divisor_of_positive m a g above h = IsGcd-pos (unsigned_abs m) (unsigned_abs a) g (size_positive m above) h

-- a and m over their greatest common divisor are a ratio in lowest terms
pub lowest_by_divisor : (m a p q : ℤ) (g : ℕ) → pos 0 <ℤ m → IsGcd (unsigned_abs m) (unsigned_abs a) g → pos g *ℤ q ≡ a → pos g *ℤ p ≡ m → IsLowest m a p q
lowest_by_divisor m a p q g above h num den =
    let common : IsCommonDivisor 1 (λ k. a) m g =
    record {
      of_scale = h.0;
      of_entries = λ k l. h.1;
      greatest = λ e of_m of_a. h.2 e of_m (of_a 0 (omega arith));
    } in
    divided_by 1 (λ k. q) (λ k. a) p m g above common (λ k l. num) den

-- a list and its scale whose divisor is 1
pub reduced_already : (n : ℕ) (v : ℕ → ℤ) (d : ℤ) (g : ℕ) → pos 0 <ℤ d → IsCommonDivisor n v d g → g ≡ 1 → IsReduced n v d v d
reduced_already n v d g above h one =
    divided_by n v v d d 1 above (subst (λ (k : ℕ). IsCommonDivisor n v d k) one h) (λ k l. one-mul (v k)) (one-mul d)
