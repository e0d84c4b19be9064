use Rattle.sc_cone.proofs.EmptyChains.{first_has_length, second_has_length}
use Rattle.sc_cone.proofs.ShortSweeps.{coordinates}
use Rattle.sc_cone.proofs.searches.open_neighbours_have_length.Goals as goal

pub returns : goal.returns
returns c = record {
  first = λ q first second r u is_first is_second gap. first_has_length q first second r u is_first is_second gap.here gap.there gap.here_within gap.there_within gap.left gap.opened;
  second = λ q first second r u is_first is_second gap. second_has_length q first second r u is_first is_second gap.here gap.there gap.here_within gap.there_within gap.left gap.opened;
  coordinates = coordinates;
}
