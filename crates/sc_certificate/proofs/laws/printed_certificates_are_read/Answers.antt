use Rattle.sc_certificate.proofs.TextLaws.{printed_is_read}
use Rattle.sc_certificate.proofs.laws.printed_certificates_are_read.Goals as goal

pub returns : goal.returns
returns c = printed_is_read
