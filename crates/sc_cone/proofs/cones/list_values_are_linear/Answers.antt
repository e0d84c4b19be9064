use Rattle.sc_cone.specs.Cones.{second_words}
use Rattle.sc_cone.proofs.Sizes.{combined}
use Rattle.sc_cone.proofs.ConeSums.{lengths_combined, bounds_combined, values_combined}
use Rattle.sc_cone.proofs.cones.list_values_are_linear.Goals as goal

pub returns : goal.returns
returns c = record {
  lengths = λ q first second k i j d e x in_d in_e in_x is.
      let by = combined q k i j d e x in_d in_e in_x is in
      lengths_combined k i j _ _ _ _ _ _ by.first by.second first (second_words q second);
  bounds = λ q first second list k i j d e x in_d in_e in_x is.
      let by = combined q k i j d e x in_d in_e in_x is in
      bounds_combined k i j _ _ _ _ _ _ by.first by.second first (second_words q second) list;
  values = λ q first second list k i j d e x in_d in_e in_x is.
      let by = combined q k i j d e x in_d in_e in_x is in
      values_combined k i j _ _ _ _ _ _ by.first by.second first (second_words q second) list;
}
