use Rattle.sc_text.proofs.SurfaceLaws.{one_text}
use Rattle.sc_text.proofs.laws.surface_text_is_of_one_surface.Goals as goal

pub returns : goal.returns
returns c = λ d n g e m h p q same. let is = one_text d n g e m h p q same in (is.words, is.copies, is.sides)
