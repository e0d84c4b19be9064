use Rattle.std.proofs.Common.{◌≡◌, ◌<◌, pos, ◌*ℤ◌, ◌<ℤ◌, unsigned_abs, FitsSigned, to_z, of_z, to_z-of_z, sym, ◌∙◌, subst, subst₂, rules}
use Rattle.std.specs.Int.{w128, IsGcd}
use Rattle.std.proofs.lemmas.Nat.Gcd.{IsGcd-swap}
use Rattle.sc_whole.proofs.DivisorLaws.{IsGcd-pos}
use Rattle.sc_fraction.proofs.Arithmetic.{divided_quotient, divided_positive, divided_coprime, size_positive}
use Rattle.sc_fraction.specs.Quotient.{SameQuotient}
use Rattle.sc_fraction.proofs.frac.Frac.lowest.Goals as goal

num_is : (c : goal.After-quotient-2) → to_z w128 (of_z w128 c.quotient.result) ≡ c.quotient.result
num_is c = let fits : FitsSigned w128 c.quotient.result = search rules in to_z-of_z fits

den_is : (c : goal.After-quotient-2) → to_z w128 (of_z w128 c.quotient-2.result) ≡ c.quotient-2.result
den_is c = let fits : FitsSigned w128 c.quotient-2.result = search rules in to_z-of_z fits

divisor : (c : goal.After-quotient-2) → IsGcd (unsigned_abs c.args.num) (unsigned_abs c.args.den) c.gcd-divisor.result
divisor c = subst₂ (λ m n. IsGcd (unsigned_abs m) (unsigned_abs n) c.gcd-divisor.result) (to_z-of_z c.ranges.num) (to_z-of_z c.ranges.den) c.gcd-divisor.ensures

num_exact : (c : goal.After-quotient-2) → pos c.gcd-divisor.result *ℤ c.quotient.result ≡ c.args.num
num_exact c = c.quotient.ensures.exact ∙ to_z-of_z c.ranges.num

den_exact : (c : goal.After-quotient-2) → pos c.gcd-divisor.result *ℤ c.quotient-2.result ≡ c.args.den
den_exact c = c.quotient-2.ensures.exact ∙ to_z-of_z c.ranges.den

pub invariant_of-result : goal.invariant_of-result
invariant_of-result c =
    let some : 0 < c.gcd-divisor.result = IsGcd-pos _ _ _ (size_positive _ c.requires) (IsGcd-swap _ _ _ (divisor c)) in
    record {
      positive = subst (λ t. pos 0 <ℤ t) (sym (den_is c)) (divided_positive _ _ _ (den_exact c) c.requires);
      reduced = subst₂ (λ m n. IsGcd (unsigned_abs m) (unsigned_abs n) 1) (sym (num_is c)) (sym (den_is c))
          (divided_coprime _ _ _ _ _ some (num_exact c) (den_exact c) (divisor c));
    }

pub returns : goal.returns
returns c =
    let num_fits : FitsSigned w128 c.quotient.result = search rules in
    let den_fits : FitsSigned w128 c.quotient-2.result = search rules in
    subst₂ (λ p q. SameQuotient p q c.args.num c.args.den) (sym (to_z-of_z num_fits)) (sym (to_z-of_z den_fits))
    (divided_quotient _ _ _ _ _ (c.quotient.ensures.exact ∙ to_z-of_z c.ranges.num) (c.quotient-2.ensures.exact ∙ to_z-of_z c.ranges.den))
