use Rattle.sc_certificate.specs.Fronts.{front_at}
use Rattle.sc_certificate.proofs.LineLaws.{start_due}
use Rattle.sc_certificate.proofs.reader.CertificateLines.new.Goals as goal

pub returns : goal.returns
returns c = start_due (front_at c.new.result) _ c.new.ensures c.new_body.ensures
