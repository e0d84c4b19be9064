-- The whole-number operations of fraction arithmetic, in their order. Where one leads out of 128 bits, the first such
-- is the evidence of the refusal.
use Rattle.std.specs.Prelude.{ℕ, List, [], ◌∷◌, ◌++◌, ℤ, pos, neg_ℤ, ◌*ℤ◌, int_div, int_lt, unsigned_abs, if◌then◌else◌}
use Rattle.std.specs.Int.{IsGcd}
use Rattle.sc_whole.specs.declared.checked.Op.{Op}
use Rattle.sc_whole.specs.declared.checked.Op.TheVariants.{Sub, Mul}
use Rattle.sc_whole.specs.declared.checked.Wide.{Wide}
use Rattle.sc_whole.specs.Operation.{step}

-- z, with its sign turned where q is below 0
abbrev pub turn : (q z : ℤ) → ℤ
turn q z = if int_lt q (pos 0) then neg_ℤ z else z

-- p/q with q below 0 is turned to (0 - p)/(0 - q)
abbrev pub turn_steps : (p q : ℤ) → List Wide
turn_steps p q = if int_lt q (pos 0) then step Sub (pos 0) p ∷ step Sub (pos 0) q ∷ [] else []

-- num/den in lowest terms, with a denominator above 0: both are divided by their greatest common divisor g, and then
-- turned
abbrev pub reduce_steps : (num den : ℤ) (g : ℕ) → List Wide
reduce_steps num den g = turn_steps (int_div num (pos g)) (int_div den (pos g))

-- the sum or difference of a and c, each times its own scale, and the product of b and the first scale
abbrev pub scaled_sum_steps : Op → (a b c scale other_scale : ℤ) → List Wide
scaled_sum_steps op a b c scale other_scale =
    step Mul a scale ∷ step Mul c other_scale ∷ step op (a *ℤ scale) (c *ℤ other_scale) ∷ step Mul b scale ∷ []

-- the sum or difference of a/b and c/e over their least common denominator, where g is the greatest common divisor of b
-- and e
abbrev pub sum_steps : Op → (a b c e : ℤ) (g : ℕ) → List Wide
sum_steps op a b c e g = scaled_sum_steps op a b c (int_div e (pos g)) (int_div b (pos g))

-- the product of a/b and c/e, where g is the greatest common divisor of a and e, and h that of c and b
abbrev pub product_steps : (a b c e : ℤ) (g h : ℕ) → List Wide
product_steps a b c e g h = step Mul (int_div a (pos g)) (int_div c (pos h)) ∷ step Mul (int_div b (pos h)) (int_div e (pos g)) ∷ []

-- the ratio of a/b and c/e: e/c is turned so that its denominator is above 0, and a/b is multiplied with it; g is the
-- greatest common divisor of a and c, and h that of e and b
abbrev pub ratio_steps : (a b c e : ℤ) (g h : ℕ) → List Wide
ratio_steps a b c e g h = turn_steps e c ++ product_steps a b (turn c e) (turn c c) g h

-- P holds of the operations by which num/den is brought to lowest terms
abbrev pub ForReduced : (num den : ℤ) → (List Wide → Type 0) → Type 0
ForReduced num den P = (g : ℕ) → IsGcd (unsigned_abs num) (unsigned_abs den) g → P (reduce_steps num den g)
