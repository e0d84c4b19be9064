use Rattle.sc_cone.proofs.Forms.{length_by_form, value_by_form}
use Rattle.sc_cone.proofs.cones.values_by_forms.Goals as goal

pub returns : goal.returns
returns c = record { lengths = length_by_form; values = value_by_form }
