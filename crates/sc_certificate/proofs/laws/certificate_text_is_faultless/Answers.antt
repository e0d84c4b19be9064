use Rattle.sc_certificate.proofs.TextLaws.{text_is_faultless}
use Rattle.sc_certificate.proofs.laws.certificate_text_is_faultless.Goals as goal

pub returns : goal.returns
returns c = text_is_faultless
