use Rattle.std.proofs.Common.{[], ◌∷◌, pos, ◌*ℤ◌, ◌<◌, ◌<ℤ◌, int_div, unsigned_abs, FitsSigned, to_z-of_z, sym, ap, ◌∙◌, subst, subst₂, rules}
use Rattle.std.specs.Int.{w128, IsGcd}
use Rattle.std.proofs.lemmas.Nat.Gcd.{IsGcd-swap}
use Rattle.std.proofs.lemmas.Result.{err_from_is_err_and}
use Rattle.sc_whole.specs.declared.checked.Op.TheVariants.{Mul}
use Rattle.sc_whole.specs.Operation.{step, AllFit, IsFirstWide}
use Rattle.sc_whole.proofs.DivisorLaws.{IsGcd-pos}
use Rattle.sc_fraction.specs.Quotient.{SameQuotient}
use Rattle.sc_fraction.proofs.Arithmetic.{at_gcd, divided_quotient, divided_positive, mul_positive, size_positive, product_quotient, product_coprime}
use Rattle.sc_fraction.proofs.frac.Frac.times.Goals as goal

pub quotient-requires-4-clause-positive : goal.quotient-requires-4-clause-positive
quotient-requires-4-clause-positive c =
    let num : FitsSigned w128 c.args.self.now.num = search rules in
    let den : FitsSigned w128 c.args.self.now.den = search rules in
    let other_num : FitsSigned w128 c.args.other.now.num = search rules in
    let other_den : FitsSigned w128 c.args.other.now.den = search rules in
    let own = simp to_z-of_z at c.gcd-own.ensures in
    IsGcd-pos (unsigned_abs c.args.other.now.den) (unsigned_abs c.args.self.now.num) _ (size_positive _ c.args.other.now.positive) (IsGcd-swap _ _ _ own)

pub returns-in_err-num-clause-evidence : goal.returns-in_err-num-clause-evidence
returns-in_err-num-clause-evidence c =
    let num : FitsSigned w128 c.args.self.now.num = search rules in
    let den : FitsSigned w128 c.args.self.now.den = search rules in
    let other_num : FitsSigned w128 c.args.other.now.num = search rules in
    let other_den : FitsSigned w128 c.args.other.now.den = search rules in
    let a : FitsSigned w128 c.quotient.result = search rules in
    let m : FitsSigned w128 c.quotient-2.result = search rules in
    let b : FitsSigned w128 c.quotient-3.result = search rules in
    let e : FitsSigned w128 c.quotient-4.result = search rules in
    let own = simp to_z-of_z at c.gcd-own.ensures in
    let across = simp to_z-of_z at c.gcd-across.ensures in
    let a_is = simp to_z-of_z at c.quotient.ensures.value in
    let m_is = simp to_z-of_z at c.quotient-2.ensures.value in
    let b_is = simp to_z-of_z at c.quotient-3.ensures.value in
    let e_is = simp to_z-of_z at c.quotient-4.ensures.value in
    let refused = err_from_is_err_and c.from_residual.result c.from_residual.ensures.1 in
    let first = simp to_z-of_z at c.in_err-num.ensures.evidence in
    rw (refused.1, refused.2) (λ g h gcd_g gcd_h. at_gcd (λ s t. IsFirstWide (step Mul t (int_div c.args.other.now.num (pos h)) ∷ step Mul (int_div c.args.self.now.den (pos h)) s ∷ []) c.in_err-num.field-0.0)
    c.args.self.now.num c.args.other.now.den _ _ c.gcd-own.result g own gcd_g e_is a_is
    (at_gcd (λ s t. IsFirstWide (step Mul c.quotient.result t ∷ step Mul s c.quotient-4.result ∷ []) c.in_err-num.field-0.0)
    c.args.other.now.num c.args.self.now.den _ _ c.gcd-across.result h across gcd_h b_is m_is first))

pub returns-clause-fits : goal.returns-clause-fits
returns-clause-fits c =
    let num : FitsSigned w128 c.args.self.now.num = search rules in
    let den : FitsSigned w128 c.args.self.now.den = search rules in
    let other_num : FitsSigned w128 c.args.other.now.num = search rules in
    let other_den : FitsSigned w128 c.args.other.now.den = search rules in
    let a : FitsSigned w128 c.quotient.result = search rules in
    let m : FitsSigned w128 c.quotient-2.result = search rules in
    let b : FitsSigned w128 c.quotient-3.result = search rules in
    let e : FitsSigned w128 c.quotient-4.result = search rules in
    let own = simp to_z-of_z at c.gcd-own.ensures in
    let across = simp to_z-of_z at c.gcd-across.ensures in
    let a_is = simp to_z-of_z at c.quotient.ensures.value in
    let m_is = simp to_z-of_z at c.quotient-2.ensures.value in
    let b_is = simp to_z-of_z at c.quotient-3.ensures.value in
    let e_is = simp to_z-of_z at c.quotient-4.ensures.value in
    let all = simp to_z-of_z at c.in_ok-num.ensures.fits in
    λ g h gcd_g gcd_h. at_gcd (λ s t. AllFit (step Mul t (int_div c.args.other.now.num (pos h)) ∷ step Mul (int_div c.args.self.now.den (pos h)) s ∷ []))
    c.args.self.now.num c.args.other.now.den _ _ c.gcd-own.result g own gcd_g e_is a_is
    (at_gcd (λ s t. AllFit (step Mul c.quotient.result t ∷ step Mul s c.quotient-4.result ∷ []))
    c.args.other.now.num c.args.self.now.den _ _ c.gcd-across.result h across gcd_h b_is m_is all)

pub invariant_of-result : goal.invariant_of-result
invariant_of-result c =
    let num : FitsSigned w128 c.args.self.now.num = search rules in
    let den : FitsSigned w128 c.args.self.now.den = search rules in
    let other_num : FitsSigned w128 c.args.other.now.num = search rules in
    let other_den : FitsSigned w128 c.args.other.now.den = search rules in
    let a : FitsSigned w128 c.quotient.result = search rules in
    let m : FitsSigned w128 c.quotient-2.result = search rules in
    let b : FitsSigned w128 c.quotient-3.result = search rules in
    let e : FitsSigned w128 c.quotient-4.result = search rules in
    let own = simp to_z-of_z at c.gcd-own.ensures in
    let across = simp to_z-of_z at c.gcd-across.ensures in
    let a_exact = simp to_z-of_z at c.quotient.ensures.exact in
    let m_exact = simp to_z-of_z at c.quotient-2.ensures.exact in
    let b_exact = simp to_z-of_z at c.quotient-3.ensures.exact in
    let e_exact = simp to_z-of_z at c.quotient-4.ensures.exact in
    let product : FitsSigned w128 c.in_ok-num.num = search rules in
    let scale : FitsSigned w128 c.in_ok-num.den = search rules in
    let parts = simp to_z-of_z at c.in_ok-num.ensures.value in
    let num_is = to_z-of_z product ∙ ap (λ r. r.0) parts in
    let den_is = to_z-of_z scale ∙ ap (λ r. r.1) parts in
    let own_some : 0 < c.gcd-own.result = IsGcd-pos (unsigned_abs c.args.other.now.den) (unsigned_abs c.args.self.now.num) _ (size_positive _ c.args.other.now.positive) (IsGcd-swap _ _ _ own) in
    let across_some : 0 < c.gcd-across.result = IsGcd-pos (unsigned_abs c.args.self.now.den) (unsigned_abs c.args.other.now.num) _ (size_positive _ c.args.self.now.positive) (IsGcd-swap _ _ _ across) in
    record {
      positive = subst (λ t. pos 0 <ℤ t) (sym den_is) (mul_positive c.quotient-3.result c.quotient-4.result
          (divided_positive c.gcd-across.result c.quotient-3.result c.args.self.now.den b_exact c.args.self.now.positive)
          (divided_positive c.gcd-own.result c.quotient-4.result c.args.other.now.den e_exact c.args.other.now.positive));
      reduced = subst₂ (λ p q. IsGcd (unsigned_abs p) (unsigned_abs q) 1) (sym num_is) (sym den_is)
          (product_coprime c.args.self.now.num c.args.self.now.den c.args.other.now.num c.args.other.now.den
          c.quotient.result c.quotient-2.result c.quotient-3.result c.quotient-4.result c.gcd-own.result c.gcd-across.result
          a_exact e_exact m_exact b_exact own_some across_some own across c.args.self.now.reduced c.args.other.now.reduced);
    }

pub returns-clause-value : goal.returns-clause-value
returns-clause-value c =
    let num : FitsSigned w128 c.args.self.now.num = search rules in
    let den : FitsSigned w128 c.args.self.now.den = search rules in
    let other_num : FitsSigned w128 c.args.other.now.num = search rules in
    let other_den : FitsSigned w128 c.args.other.now.den = search rules in
    let a : FitsSigned w128 c.quotient.result = search rules in
    let m : FitsSigned w128 c.quotient-2.result = search rules in
    let b : FitsSigned w128 c.quotient-3.result = search rules in
    let e : FitsSigned w128 c.quotient-4.result = search rules in
    let a_exact = simp to_z-of_z at c.quotient.ensures.exact in
    let m_exact = simp to_z-of_z at c.quotient-2.ensures.exact in
    let b_exact = simp to_z-of_z at c.quotient-3.ensures.exact in
    let e_exact = simp to_z-of_z at c.quotient-4.ensures.exact in
    let product : FitsSigned w128 c.in_ok-num.num = search rules in
    let scale : FitsSigned w128 c.in_ok-num.den = search rules in
    let parts = simp to_z-of_z at c.in_ok-num.ensures.value in
    let num_is = to_z-of_z product ∙ ap (λ r. r.0) parts in
    let den_is = to_z-of_z scale ∙ ap (λ r. r.1) parts in
    subst₂ (λ p q. SameQuotient p q (c.args.self.now.num *ℤ c.args.other.now.num) (c.args.self.now.den *ℤ c.args.other.now.den)) (sym num_is) (sym den_is)
    (product_quotient c.args.self.now.num c.args.self.now.den c.args.other.now.num c.args.other.now.den
    c.quotient.result c.quotient-2.result c.quotient-3.result c.quotient-4.result
    (divided_quotient _ _ _ _ c.gcd-own.result a_exact e_exact)
    (divided_quotient _ _ _ _ c.gcd-across.result m_exact b_exact))
