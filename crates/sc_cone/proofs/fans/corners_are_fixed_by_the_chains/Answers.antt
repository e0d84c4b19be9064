use Rattle.sc_cone.proofs.SameFans.{as_many, directions, values}
use Rattle.sc_cone.proofs.fans.corners_are_fixed_by_the_chains.Goals as goal

pub returns : goal.returns
returns c = record {
  count = as_many;
  directions = λ f g i of_first of_second is_first is_second is_f is_g inside. directions f g of_first of_second is_first is_second is_f is_g i inside;
  values = λ f g i of_first of_second is_first is_second is_f is_g inside. values f g of_first of_second is_first is_second is_f is_g i inside;
}
