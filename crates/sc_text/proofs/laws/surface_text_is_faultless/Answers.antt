use Rattle.sc_text.proofs.SurfaceLaws.{faultless_text}
use Rattle.sc_text.proofs.laws.surface_text_is_faultless.Goals as goal

pub returns : goal.returns
returns c = faultless_text
