use Rattle.sc_gluing.specs.Cycles.{copies_of}
use Rattle.sc_gluing.proofs.StepCounts.{cycles_of_parts}
use Rattle.sc_gluing.proofs.GluedLaws.{one_gluing}
use Rattle.sc_gluing.proofs.laws.one_surface_is_glued.Goals as goal

pub returns : goal.returns
returns c = record {
  copies = λ c n parts g h is first second. one_gluing c n (copies_of parts) (cycles_of_parts c n parts is) g h first second;
  cycles = λ c n cycles g h is first second. one_gluing c n cycles is g h first second;
}
