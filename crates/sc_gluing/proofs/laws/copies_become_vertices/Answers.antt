use Rattle.std.proofs.Common.{◌∙◌}
use Rattle.sc_gluing.specs.Cycles.{copies_of}
use Rattle.sc_gluing.proofs.StepCounts.{cycles_of_parts}
use Rattle.sc_gluing.proofs.GluedVertices.{cycles_vertices, length-copies_of}
use Rattle.sc_gluing.proofs.laws.copies_become_vertices.Goals as goal

pub returns : goal.returns
returns c = record {
  copies = λ c n parts g is glued. cycles_vertices c n (copies_of parts) g (cycles_of_parts c n parts is) glued ∙ length-copies_of parts;
  cycles = λ c n cycles g is glued. cycles_vertices c n cycles g is glued;
}
