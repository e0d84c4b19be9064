use Rattle.sc_cone.proofs.Arcs.{arc_of_one, arc_pushed, arc_extended}
use Rattle.sc_cone.proofs.fans.arcs_grow.Goals as goal

pub returns : goal.returns
returns c = record {
  one = arc_of_one;
  pushed = arc_pushed;
  extended = λ q first second before d es e x is_first is_second arc good left at_x. arc_extended q first second is_first is_second before d es e x arc good left at_x;
}
