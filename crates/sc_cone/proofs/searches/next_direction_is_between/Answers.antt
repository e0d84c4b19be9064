use Rattle.sc_cone.proofs.NextDirections.{next_between, next_is_one}
use Rattle.sc_cone.proofs.searches.next_direction_is_between.Goals as goal

pub returns : goal.returns
returns c = record {
  between = λ q first second r u x is_first is_second gap. next_between q first second is_first is_second r u gap.here gap.there gap.here_within gap.there_within gap.left gap.opened x;
  one = λ q first second r u x y is_first is_second gap. next_is_one q first second is_first is_second r u gap.here gap.there gap.here_within gap.there_within gap.left gap.opened x y;
}
