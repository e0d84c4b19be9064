use Rattle.std.proofs.Common.{◌≡◌, subst}
use Rattle.std.proofs.lemmas.Result.{IfOk-weaker}
use Rattle.sc_theory.specs.Chains.{Chain}
use Rattle.sc_line.specs.Forms.{Tells}
use Rattle.sc_line.proofs.NumberLaws.{tells_value}
use Rattle.sc_certificate.specs.PivotLines.{pivot_line, pivot_fault, pivot_of_line, IsPivotInRange, a_pivot}
use Rattle.sc_certificate.proofs.PivotLaws.{pivot_kind}
use Rattle.sc_certificate.proofs.pivots.PivotLinesLineItem.read.Goals as goal

pub returns-clause-ok : goal.returns-clause-ok
returns-clause-ok c =
    let chain = c.chain.result.now in
    IfOk-weaker c.pivot_line.result _ _
    (λ p (h : (c.args.line.now ≡ pivot_line p) × IsPivotInRange chain p).
    subst (λ (k : Chain). Tells (a_pivot k) c.args.line.now p) c.chain.ensures (tells_value (pivot_fault chain) pivot_of_line pivot_line (IsPivotInRange chain) p c.args.line.now (pivot_kind chain) h.0 h.1))
    c.pivot_line.ensures.ok
