use Rattle.std.proofs.Common.{◌≡◌, ◌∙◌, ◌*◌, ap, pos}
use Rattle.std.proofs.lemmas.Result.{IfOk-weaker}
use Rattle.sc_theory.specs.Fatgraphs.{IsLeast, cost}
use Rattle.sc_fraction.specs.Frac.{IsQuotient}
use Rattle.sc_fatgraph.specs.Surfaces.{surface}
use Rattle.sc_prices.specs.declared.verdict.Verdict.TheVariants.{Optimal, Rejected}
use Rattle.sc_certificate.specs.CertificateRead.{certificate_of}
use Rattle.sc_prices.specs.Conditions.{IsVerdictOn, IfOptimal}
use Rattle.sc_prices.proofs.Failing.{verdict_of_surface, verdict_tells}
use Rattle.sc_prices.proofs.judging.judge.Goals as goal

pub returns-in-Ok : goal.returns-in-Ok
returns-in-Ok c =
    let s = c.args.certificate in
    let r = c.verdict_on.result in
    let on = verdict_of_surface s c.in-Ok.fatgraph r (c.in-Ok.ensures.value ∙ ap (surface s.chain s.n) c.from_vec.ensures) c.verdict_on.ensures in
    record {
      verdict = on;
      optimal = λ all. IfOk-weaker r (IsVerdictOn (certificate_of s)) (λ x. x ≡ Optimal s.value) (λ x h. (verdict_tells s x c.requires.in_range h).optimal all) on;
      rejected = λ k fails.
          IfOk-weaker r (IsVerdictOn (certificate_of s)) (λ x. x ≡ Rejected k) (λ x h. (verdict_tells s x c.requires.in_range h).rejected k fails) on;
      least =
          IfOk-weaker r (IsVerdictOn (certificate_of s)) (λ x. IfOptimal x (λ value. IsLeast s.chain s.n s.sides.items))
          (λ x h. (verdict_tells s x c.requires.in_range h).least) on;
      value =
          IfOk-weaker r (IsVerdictOn (certificate_of s)) (λ x. IfOptimal x (IsQuotient (cost s.sides.items) (pos (2 * s.n))))
          (λ x h. (verdict_tells s x c.requires.in_range h).value) on;
    }
