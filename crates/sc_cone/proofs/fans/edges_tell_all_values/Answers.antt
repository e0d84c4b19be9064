use Rattle.sc_cone.proofs.WholePlane.{edge_in, value_on_cone, cones_cover}
use Rattle.sc_cone.proofs.fans.edges_tell_all_values.Goals as goal

pub returns : goal.returns
returns c = record {
  within = λ f i is inside. edge_in f is i inside;
  values = λ f i x is_first is_second is inside between. value_on_cone f is is_first is_second i x inside between;
  cover = λ f q x is within. cones_cover f is q x within;
}
