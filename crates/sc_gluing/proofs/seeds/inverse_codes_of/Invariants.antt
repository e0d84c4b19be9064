use Rattle.sc_gluing.specs.inside.Letters.{AreInverseCodes}
use Rattle.sc_gluing.proofs.seeds.inverse_codes_of.Given as goal

abbrev pub invariant-loop-label : goal.invariant-loop-label
invariant-loop-label l = AreInverseCodes l.chain l.labels l.label-index l.codes.items
