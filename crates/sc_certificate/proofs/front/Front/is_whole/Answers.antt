use Rattle.std.proofs.Common.{ap, ◌∙◌}
use Rattle.sc_line.specs.Formats.{is_told}
use Rattle.sc_certificate.specs.Fronts.{FrontSoFar, front_at}
use Rattle.sc_certificate.proofs.front.Front.is_whole.Goals as goal

pub returns : goal.returns
returns c = c.is_whole.ensures ∙ ap (λ (p : FrontSoFar). is_told (front_at p)) c.self.view_is
