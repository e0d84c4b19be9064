use Rattle.std.proofs.Common.{◌≡◌, ℕ, pos, ◌*ℤ◌, ◌<ℤ◌, unsigned_abs, FitsSigned, of_z, to_z-of_z, refl, sym, ap, ◌∙◌, subst, subst₂, rules}
use Rattle.std.specs.Int.{w128, IsGcd}
use Rattle.std.proofs.lemmas.Nat.Gcd.{IsGcd-swap}
use Rattle.std.proofs.lemmas.Result.{err_from_is_err_and}
use Rattle.sc_whole.specs.Operation.{AllFit, IsFirstWide}
use Rattle.sc_fraction.specs.Quotient.{SameQuotient}
use Rattle.sc_fraction.specs.Steps.{turn, turn_steps, product_steps}
use Rattle.sc_fraction.proofs.Arithmetic.{AllFit-append, first_wide_after, size-turn, turn_positive, turned_coprime, turned_quotient, ratio_quotient}
use Rattle.sc_fraction.proofs.frac.Frac.over.Goals as goal

pub invariant_of-times : goal.invariant_of-times
invariant_of-times c =
    let nonzero : ¬ (c.args.other.now.num ≡ pos 0) = λ z. c.if-other-eq0.false (ap (of_z w128) z) in
    let other_num : FitsSigned w128 c.args.other.now.num = search rules in
    let other_den : FitsSigned w128 c.args.other.now.den = search rules in
    let num : FitsSigned w128 c.in_ok-num.num = search rules in
    let den : FitsSigned w128 c.in_ok-num.den = search rules in
    let parts = simp to_z-of_z at c.in_ok-num.ensures.value in
    let num_is = to_z-of_z num ∙ ap (λ r. r.0) parts in
    let den_is = to_z-of_z den ∙ ap (λ r. r.1) parts in
    record {
      positive = subst (λ t. pos 0 <ℤ t) (sym den_is) (turn_positive c.args.other.now.num nonzero);
      reduced = subst₂ (λ p q. IsGcd (unsigned_abs p) (unsigned_abs q) 1) (sym num_is) (sym den_is)
          (turned_coprime c.args.other.now.den c.args.other.now.num (IsGcd-swap _ _ 1 c.args.other.now.reduced));
    }

pub returns-in_err-times-clause-evidence : goal.returns-in_err-times-clause-evidence
returns-in_err-times-clause-evidence c =
    let other_num : FitsSigned w128 c.args.other.now.num = search rules in
    let other_den : FitsSigned w128 c.args.other.now.den = search rules in
    let num : FitsSigned w128 c.in_ok-num.num = search rules in
    let den : FitsSigned w128 c.in_ok-num.den = search rules in
    let parts = simp to_z-of_z at c.in_ok-num.ensures.value in
    let num_is = to_z-of_z num ∙ ap (λ r. r.0) parts in
    let den_is = to_z-of_z den ∙ ap (λ r. r.1) parts in
    let refused = err_from_is_err_and c.from_residual-in_err-times.result c.from_residual-in_err-times.ensures.1 in
    let turn_fits = simp to_z-of_z at c.in_ok-num.ensures.fits in
    let first = subst₂ (λ n t. (g h : ℕ) → IsGcd (unsigned_abs c.args.self.now.num) (unsigned_abs t) g → IsGcd (unsigned_abs n) (unsigned_abs c.args.self.now.den) h → IsFirstWide (product_steps c.args.self.now.num c.args.self.now.den n t g h) c.in_err-times.field-0.0)
    num_is den_is c.in_err-times.ensures.evidence in
    rw (refused.1, refused.2) (λ g h gcd_g gcd_h. first_wide_after (turn_steps c.args.other.now.den c.args.other.now.num) _ _ turn_fits
    (first g h (subst (λ k. IsGcd (unsigned_abs c.args.self.now.num) k g) (sym (size-turn c.args.other.now.num c.args.other.now.num)) gcd_g)
    (subst (λ k. IsGcd k (unsigned_abs c.args.self.now.den) h) (sym (size-turn c.args.other.now.num c.args.other.now.den)) gcd_h)))

pub returns-clause-fits : goal.returns-clause-fits
returns-clause-fits c =
    let other_num : FitsSigned w128 c.args.other.now.num = search rules in
    let other_den : FitsSigned w128 c.args.other.now.den = search rules in
    let num : FitsSigned w128 c.in_ok-num.num = search rules in
    let den : FitsSigned w128 c.in_ok-num.den = search rules in
    let parts = simp to_z-of_z at c.in_ok-num.ensures.value in
    let num_is = to_z-of_z num ∙ ap (λ r. r.0) parts in
    let den_is = to_z-of_z den ∙ ap (λ r. r.1) parts in
    let turn_fits = simp to_z-of_z at c.in_ok-num.ensures.fits in
    let all = subst₂ (λ n t. (g h : ℕ) → IsGcd (unsigned_abs c.args.self.now.num) (unsigned_abs t) g → IsGcd (unsigned_abs n) (unsigned_abs c.args.self.now.den) h → AllFit (product_steps c.args.self.now.num c.args.self.now.den n t g h))
    num_is den_is c.in_ok-times.ensures.fits in
    λ g h gcd_g gcd_h. AllFit-append (turn_steps c.args.other.now.den c.args.other.now.num) _ turn_fits
    (all g h (subst (λ k. IsGcd (unsigned_abs c.args.self.now.num) k g) (sym (size-turn c.args.other.now.num c.args.other.now.num)) gcd_g)
    (subst (λ k. IsGcd k (unsigned_abs c.args.self.now.den) h) (sym (size-turn c.args.other.now.num c.args.other.now.den)) gcd_h))

pub returns-clause-value : goal.returns-clause-value
returns-clause-value c =
    let nonzero : ¬ (c.args.other.now.num ≡ pos 0) = λ z. c.if-other-eq0.false (ap (of_z w128) z) in
    let other_num : FitsSigned w128 c.args.other.now.num = search rules in
    let other_den : FitsSigned w128 c.args.other.now.den = search rules in
    let num : FitsSigned w128 c.in_ok-num.num = search rules in
    let den : FitsSigned w128 c.in_ok-num.den = search rules in
    let parts = simp to_z-of_z at c.in_ok-num.ensures.value in
    let num_is = to_z-of_z num ∙ ap (λ r. r.0) parts in
    let den_is = to_z-of_z den ∙ ap (λ r. r.1) parts in
    let product = subst₂ (λ n t. SameQuotient c.in_ok-times.field-0.num c.in_ok-times.field-0.den (c.args.self.now.num *ℤ n) (c.args.self.now.den *ℤ t))
    num_is den_is c.in_ok-times.ensures.value in
    ratio_quotient c.in_ok-times.field-0.num c.in_ok-times.field-0.den c.args.self.now.num c.args.self.now.den
    (turn c.args.other.now.num c.args.other.now.den) (turn c.args.other.now.num c.args.other.now.num) c.args.other.now.num c.args.other.now.den
    (turn_positive c.args.other.now.num nonzero)
    (turned_quotient c.args.other.now.den c.args.other.now.num c.args.other.now.den c.args.other.now.num refl)
    product
