use Rattle.sc_theory.proofs.VertexLaws.{even_sides}
use Rattle.sc_theory.proofs.fatgraphs.sides_are_even.Goals as goal

pub returns : goal.returns
returns c = even_sides
