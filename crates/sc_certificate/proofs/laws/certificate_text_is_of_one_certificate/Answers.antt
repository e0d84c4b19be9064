use Rattle.sc_certificate.proofs.TextLaws.{text_is_of_one}
use Rattle.sc_certificate.proofs.laws.certificate_text_is_of_one_certificate.Goals as goal

pub returns : goal.returns
returns c = text_is_of_one
