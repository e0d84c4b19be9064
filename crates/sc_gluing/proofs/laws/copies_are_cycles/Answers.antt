use Rattle.sc_gluing.proofs.StepCounts.{cycles_of_parts}
use Rattle.sc_gluing.proofs.laws.copies_are_cycles.Goals as goal

pub returns : goal.returns
returns c = cycles_of_parts
