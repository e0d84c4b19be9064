use Rattle.std.proofs.Common.{◌≡◌, ℕ, ◌*◌, ◌/◌, FitsSigned, to_z-of_z, pos, unsigned_abs, arith, rules, sym, ap, ap₂, subst, ◌∙◌}
use Rattle.std.specs.Int.{w128}
use Rattle.sc_fraction.specs.Frac.{numerator}
use Rattle.sc_assembly.specs.Multiples.{IsTimes}
use Rattle.sc_assembly.proofs.Wholes.{size, count_is}
use Rattle.sc_assembly.proofs.counting.times.Goals as goal

den_is : (c : goal.After-from) → c.unsigned_abs-den.result ≡ size c.args.value.now
den_is c = let fits : FitsSigned w128 c.den.result = search rules in c.unsigned_abs-den.ensures.value ∙ ap unsigned_abs (to_z-of_z fits ∙ c.den.ensures.value)

num_is : (c : goal.After-from) → c.unsigned_abs-num.result ≡ unsigned_abs (numerator c.args.value.now)
num_is c = let fits : FitsSigned w128 c.num.result = search rules in c.unsigned_abs-num.ensures.value ∙ ap unsigned_abs (to_z-of_z fits ∙ c.num.ensures)

product : (c : goal.After-from) → c.from.result / c.unsigned_abs-den.result * c.unsigned_abs-num.result ≡ c.requires.0
product c =
    ap (λ (n : ℕ). n / c.unsigned_abs-den.result * c.unsigned_abs-num.result) c.from.ensures
    ∙ ap₂ (λ (d k : ℕ). c.args.n / d * k) (den_is c) (num_is c)
    ∙ count_is c.args.n c.args.value.now c.requires.0 c.requires.2

pub overflow_mul-result : goal.overflow_mul-result
overflow_mul-result c = omega (arith, product c, c.requires.1)

pub overflow_cast-result : goal.overflow_cast-result
overflow_cast-result c = omega (arith, product c, c.requires.1)

pub returns : goal.returns
returns c = subst (λ (m : ℕ). IsTimes c.args.n c.args.value.now (pos m)) (sym (product c)) c.requires.2
