use Rattle.sc_gluing.specs.Cycles.{copies_of}
use Rattle.sc_gluing.proofs.StepCounts.{cycles_of_parts}
use Rattle.sc_gluing.proofs.Sizes.{cycles_size}
use Rattle.sc_gluing.proofs.laws.copies_have_the_sides.Goals as goal

pub returns : goal.returns
returns c = record {
  copies = λ c n parts is. cycles_size c n (copies_of parts) (cycles_of_parts c n parts is);
  cycles = cycles_size;
}
