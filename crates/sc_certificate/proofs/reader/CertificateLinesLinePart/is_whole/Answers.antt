use Rattle.std.proofs.Common.{sym, ◌∙◌}
use Rattle.sc_certificate.specs.Fronts.{front_at}
use Rattle.sc_certificate.proofs.LineLaws.{valueless, body_told}
use Rattle.sc_certificate.proofs.reader.CertificateLinesLinePart.is_whole.Goals as goal

pub returns-in-None : goal.returns-in-None
returns-in-None c = sym (valueless c.args.self.now.head c.in-None.is _ (front_at c.args.self.now.front))

pub returns-in-Some : goal.returns-in-Some
returns-in-Some c = c.is_whole.ensures ∙ sym (body_told (front_at c.args.self.now.front) c.args.self.now.head c.in-Some.head c.in-Some.is _)
