use Rattle.sc_text.proofs.SurfaceLaws.{faultless_is_text}
use Rattle.sc_text.proofs.laws.faultless_is_surface_text.Goals as goal

pub returns : goal.returns
returns c = faultless_is_text
