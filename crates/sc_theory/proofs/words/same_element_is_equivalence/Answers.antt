use Rattle.sc_theory.proofs.Normal.{same_itself, same_other_way, same_through}
use Rattle.sc_theory.proofs.words.same_element_is_equivalence.Goals as goal

pub returns-clause-reflexive : goal.returns-clause-reflexive
returns-clause-reflexive c = same_itself

pub returns-clause-symmetric : goal.returns-clause-symmetric
returns-clause-symmetric c = same_other_way

pub returns-clause-transitive : goal.returns-clause-transitive
returns-clause-transitive c = same_through
