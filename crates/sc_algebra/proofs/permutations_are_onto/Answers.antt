use Rattle.sc_algebra.proofs.Permutations.{onto}
use Rattle.sc_algebra.proofs.permutations_are_onto.Goals as goal

pub returns : goal.returns
returns c = record { onto = λ t n h. onto h }
