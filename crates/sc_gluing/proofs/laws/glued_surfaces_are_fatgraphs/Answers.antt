use Rattle.sc_gluing.specs.Cycles.{copies_of}
use Rattle.sc_gluing.proofs.StepCounts.{cycles_of_parts}
use Rattle.sc_gluing.proofs.GluedLaws.{cycles_fatgraph}
use Rattle.sc_gluing.proofs.laws.glued_surfaces_are_fatgraphs.Goals as goal

pub returns : goal.returns
returns c = record {
  copies = λ c n parts g some is glued. cycles_fatgraph c n (copies_of parts) (cycles_of_parts c n parts is) g glued some;
  cycles = λ c n cycles g some is glued. cycles_fatgraph c n cycles is g glued some;
}
