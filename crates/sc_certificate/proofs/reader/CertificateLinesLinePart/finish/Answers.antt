use Rattle.std.proofs.Common.{◌∙◌}
use Rattle.sc_text.specs.ValueLines.{quotient_of}
use Rattle.sc_certificate.specs.Fronts.{front_at}
use Rattle.sc_certificate.proofs.LineLaws.{valueless, body_told, body_done_as, if_none}
use Rattle.sc_certificate.proofs.reader.CertificateLinesLinePart.finish.Goals as goal

pub returns-in_err-head-clause-none : goal.returns-in_err-head-clause-none
returns-in_err-head-clause-none c = if_none c.from_residual.result (valueless c.args.self.head c.in_err-head.was _ (front_at c.args.self.front))

pub returns-in_err-out-clause-none : goal.returns-in_err-out-clause-none
returns-in_err-out-clause-none c =
    if_none c.from_residual-in_err-out.result (body_told (front_at c.args.self.front) c.args.self.head c.in_ok-head.head c.in_ok-head.was _ ∙ c.in_err-out.ensures.none)

pub returns-clause-some : goal.returns-clause-some
returns-clause-some c =
    let parts = c.into_parts-chain in
    body_done_as (front_at c.args.self.front) c.args.self.head c.in_ok-head.head c.in_ok-head.was _ _ parts.result.0 (quotient_of parts.result.1) parts.ensures.chain parts.ensures.value c.in_ok-out.ensures.some
