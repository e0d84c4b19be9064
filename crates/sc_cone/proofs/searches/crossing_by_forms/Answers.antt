use Rattle.sc_cone.proofs.Crossings.{crossing, gaps_have_one_sign}
use Rattle.sc_cone.proofs.searches.crossing_by_forms.Goals as goal

pub returns : goal.returns
returns c = record {
  same = crossing;
  one_sign = λ q first second r u is_first is_second gap. gaps_have_one_sign q first second r u is_first is_second gap.here gap.there gap.here_within gap.there_within gap.left gap.opened;
}
