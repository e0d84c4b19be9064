use Rattle.sc_theory.proofs.VertexLaws.{least_of_all}
use Rattle.sc_theory.proofs.fatgraphs.vertices_are_least_sides.Goals as goal

pub returns : goal.returns
returns c = λ c n g s is inside. least_of_all c n g is s inside
