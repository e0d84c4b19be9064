use Rattle.std.proofs.Common.{◌≡◌, ◌∙◌, false, pos, unsigned_abs, sym, ap, Some}
use Rattle.std.proofs.lemmas.Result.{err_from_is_err_and, IfOk-weaker, IfErr-weaker}
use Rattle.sc_fraction.specs.Frac.{numerator, denominator}
use Rattle.sc_line.specs.declared.fault.Kind.{Kind}
use Rattle.sc_line.specs.declared.fault.Kind.TheVariants as kinds
use Rattle.sc_line.specs.Faults.{between}
use Rattle.sc_text.specs.ValueLines.{are_coprime}
use Rattle.sc_fraction.specs.Quotient.{quotient_text}
use Rattle.sc_line.proofs.LineLaws.{narrowed_is}
use Rattle.sc_text.proofs.ValueLaws.{fraction_in_range, field_is, no_denominator, fault_of_numbers, num_outside, den_outside, not_coprime}
use Rattle.sc_text.proofs.values.fraction_of.Goals as goal

pub returns-in_err-den-clause-err : goal.returns-in_err-den-clause-err
returns-in_err-den-clause-err c =
    let p = err_from_is_err_and c.from_residual-in_err-den.result c.from_residual-in_err-den.ensures.1 in
    let fault = no_denominator (between 0 c.args.most) (between 1 c.args.most) c.args.field.now c.in-Some.num.now c.in-Some.den.now c.in-Some.ensures.found c.in_err-den.ensures.err.1 in
    rw (p.1, p.2) (fault ∙ ap Some (sym c.in_err-den.ensures.err.0))

pub returns-in_err-num-2-clause-err : goal.returns-in_err-num-2-clause-err
returns-in_err-num-2-clause-err c =
    let p = err_from_is_err_and c.from_residual-in_err-num-2.result c.from_residual-in_err-num-2.ensures.1 in
    let num = c.in_ok-num.ensures.ok in
    let den = c.in_ok-den.ensures.ok in
    let fault = fault_of_numbers (between 0 c.args.most) (between 1 c.args.most) c.args.field.now c.in-Some.num.now c.in-Some.den.now num.value den.value c.in-Some.ensures.found num.spells den.spells in
    let range = num_outside (between 0 c.args.most) (between 1 c.args.most) num.value den.value (c.in_err-num-2.ensures.err.1 num.value num.narrowed) in
    rw (p.1, p.2) (fault ∙ range ∙ ap Some (sym c.in_err-num-2.ensures.err.0))

pub returns-in_err-den-2-clause-err : goal.returns-in_err-den-2-clause-err
returns-in_err-den-2-clause-err c =
    let p = err_from_is_err_and c.from_residual-in_err-den-2.result c.from_residual-in_err-den-2.ensures.1 in
    let num = c.in_ok-num.ensures.ok in
    let den = c.in_ok-den.ensures.ok in
    let fault = fault_of_numbers (between 0 c.args.most) (between 1 c.args.most) c.args.field.now c.in-Some.num.now c.in-Some.den.now num.value den.value c.in-Some.ensures.found num.spells den.spells in
    let range = den_outside (between 0 c.args.most) (between 1 c.args.most) num.value den.value (c.in_err-den-2.ensures.err.1 den.value den.narrowed) in
    rw (p.1, p.2) (fault ∙ range ∙ ap Some (sym c.in_err-den-2.ensures.err.0))

pub returns-clause-ok : goal.returns-clause-ok
returns-clause-ok c =
    let num = c.in_ok-num.ensures.ok in
    let den = c.in_ok-den.ensures.ok in
    let n = c.in_ok-num-2.num in
    let d = c.in_ok-den-2.den in
    let num_range = c.in_ok-num-2.ensures.ok in
    let den_range = c.in_ok-den-2.ensures.ok in
    let num_is = narrowed_is num.value (pos n) c.in_ok-num.num num.narrowed num_range.0 in
    let den_is = narrowed_is den.value (pos d) c.in_ok-den.den den.narrowed den_range.0 in
    let text = field_is c.args.field.now c.in-Some.num.now c.in-Some.den.now num.value den.value c.in-Some.ensures.found num.spells den.spells in
    IfOk-weaker _ _ _
    (λ v (h : (numerator v ≡ pos n) × (denominator v ≡ pos d)). (
      text ∙ (λ i. quotient_text ((num_is ∙ sym h.0) i) ((den_is ∙ sym h.1) i)),
      fraction_in_range c.args.most v n d h.0 h.1 num_range.2 den_range.1 den_range.2,
    ))
    c.lowest.ensures.ok

pub returns-clause-err : goal.returns-clause-err
returns-clause-err c =
    let num = c.in_ok-num.ensures.ok in
    let den = c.in_ok-den.ensures.ok in
    let n = c.in_ok-num-2.num in
    let d = c.in_ok-den-2.den in
    let num_is = narrowed_is num.value (pos n) c.in_ok-num.num num.narrowed c.in_ok-num-2.ensures.ok.0 in
    let den_is = narrowed_is den.value (pos d) c.in_ok-den.den den.narrowed c.in_ok-den-2.ensures.ok.0 in
    let fault = fault_of_numbers (between 0 c.args.most) (between 1 c.args.most) c.args.field.now c.in-Some.num.now c.in-Some.den.now num.value den.value c.in-Some.ensures.found num.spells den.spells in
    IfErr-weaker _ _ _
    (λ (kind : Kind) (h : (kind ≡ kinds.Range) × (are_coprime n d ≡ false)).
    let common : are_coprime (unsigned_abs num.value) (unsigned_abs den.value) ≡ false = (λ i. are_coprime (unsigned_abs (num_is i)) (unsigned_abs (den_is i))) ∙ h.1 in
    fault ∙ not_coprime (between 0 c.args.most) (between 1 c.args.most) num.value den.value common ∙ ap Some (sym h.0))
    c.lowest.ensures.err
