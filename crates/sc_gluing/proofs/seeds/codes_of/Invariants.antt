use Rattle.sc_gluing.specs.inside.Letters.{AreCodes}
use Rattle.sc_gluing.proofs.seeds.codes_of.Given as goal

abbrev pub invariant-loop-label : goal.invariant-loop-label
invariant-loop-label l = AreCodes l.chain l.labels l.label-index l.codes.items
