use Rattle.sc_theory.proofs.FatgraphLaws.{sides_of_place, sides_of_position, length_is, balanced}
use Rattle.sc_theory.proofs.fatgraphs.copies_count_the_sides.Goals as goal

pub returns : goal.returns
returns c = record {
  places = λ c n g w k is inside. sides_of_place c n g is w k inside;
  positions = λ c n g i is inside. sides_of_position c n g is i inside;
  length = length_is;
  balanced = balanced;
}
