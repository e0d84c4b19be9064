use Rattle.sc_app.specs.Said.{is_headed_as_certificate}
use Rattle.sc_app.proofs.said.is_headed_as_certificate.Goals as goal

pub returns : goal.returns
unfolding is_headed_as_certificate
returns c = c.starts_with.ensures.value
