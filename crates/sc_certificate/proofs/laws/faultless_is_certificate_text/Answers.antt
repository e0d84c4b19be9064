use Rattle.sc_certificate.proofs.TextLaws.{faultless_is_text}
use Rattle.sc_certificate.proofs.laws.faultless_is_certificate_text.Goals as goal

pub returns : goal.returns
returns c = faultless_is_text
