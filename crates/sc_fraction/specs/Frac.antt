-- What a `Frac` shows, and what its operations answer.
use Rattle.std.specs.Prelude.{ℕ, List, ℤ, ◌+ℤ◌, ◌-ℤ◌, ◌*ℤ◌, unsigned_abs}
use Rattle.std.specs.Int.{IsGcd}
use Rattle.std.specs.declared.cmp.Ordering.{Ordering}
use Rattle.sc_whole.specs.declared.checked.Op.{Op}
use Rattle.sc_whole.specs.declared.checked.Wide.{Wide}
use Rattle.sc_fraction.specs.declared.frac.Frac.{Frac}
use Rattle.sc_fraction.specs.Quotient.{SameQuotient, quotient_cmp, quotient_text}
use Rattle.sc_fraction.specs.Steps.{sum_steps, product_steps, ratio_steps}

abbrev pub numerator : Frac → ℤ
numerator f = f.num

abbrev pub denominator : Frac → ℤ
denominator f = f.den

-- f is the number a/b
abbrev pub IsQuotient : (a b : ℤ) → Frac → Type 0
IsQuotient a b f = SameQuotient (numerator f) (denominator f) a b

-- the order of the numbers that two fractions are
abbrev pub frac_cmp : Frac → Frac → Ordering
frac_cmp x y = quotient_cmp (numerator x) (denominator x) (numerator y) (denominator y)

abbrev pub frac_text : Frac → List ℕ
frac_text f = quotient_text (numerator f) (denominator f)

-- f is the sum, the difference, the product or the ratio of x and y
abbrev pub IsSum : (x y f : Frac) → Type 0
IsSum x y f = IsQuotient ((numerator x *ℤ denominator y) +ℤ (numerator y *ℤ denominator x)) (denominator x *ℤ denominator y) f

abbrev pub IsDifference : (x y f : Frac) → Type 0
IsDifference x y f = IsQuotient ((numerator x *ℤ denominator y) -ℤ (numerator y *ℤ denominator x)) (denominator x *ℤ denominator y) f

abbrev pub IsProduct : (x y f : Frac) → Type 0
IsProduct x y f = IsQuotient (numerator x *ℤ numerator y) (denominator x *ℤ denominator y) f

abbrev pub IsRatio : (x y f : Frac) → Type 0
IsRatio x y f = IsQuotient (numerator x *ℤ denominator y) (denominator x *ℤ numerator y) f

-- P holds of the whole-number operations by which x and y are added or subtracted
abbrev pub ForSum : Op → (x y : Frac) → (List Wide → Type 0) → Type 0
ForSum op x y P = (g : ℕ) → IsGcd (unsigned_abs (denominator x)) (unsigned_abs (denominator y)) g
    → P (sum_steps op (numerator x) (denominator x) (numerator y) (denominator y) g)

-- the same of those by which they are multiplied
abbrev pub ForProduct : (x y : Frac) → (List Wide → Type 0) → Type 0
ForProduct x y P = (g h : ℕ) → IsGcd (unsigned_abs (numerator x)) (unsigned_abs (denominator y)) g
    → IsGcd (unsigned_abs (numerator y)) (unsigned_abs (denominator x)) h
    → P (product_steps (numerator x) (denominator x) (numerator y) (denominator y) g h)

-- and of those by which x is divided by y
abbrev pub ForRatio : (x y : Frac) → (List Wide → Type 0) → Type 0
ForRatio x y P = (g h : ℕ) → IsGcd (unsigned_abs (numerator x)) (unsigned_abs (numerator y)) g
    → IsGcd (unsigned_abs (denominator y)) (unsigned_abs (denominator x)) h
    → P (ratio_steps (numerator x) (denominator x) (numerator y) (denominator y) g h)
