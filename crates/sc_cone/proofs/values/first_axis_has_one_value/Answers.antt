use Rattle.sc_cone.proofs.UnusedWords.{axis_fatgraphs, axis_value, axis_quadrants}
use Rattle.sc_cone.proofs.values.first_axis_has_one_value.Goals as goal

pub returns : goal.returns
returns c = record { fatgraphs = axis_fatgraphs; value = axis_value; quadrants = axis_quadrants }
