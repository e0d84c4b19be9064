use Rattle.std.proofs.Common.{take}
use Rattle.sc_gluing.specs.Cycles.{copies_of}
use Rattle.sc_gluing.specs.Laying.{AreLaid}
use Rattle.sc_gluing.specs.Seeds.{word_parts}
use Rattle.sc_gluing.proofs.seeds.lay_words.Given as goal

abbrev pub invariant-loop-w : goal.invariant-loop-w
invariant-loop-w l = AreLaid (copies_of (take l.w (word_parts l.chain))) l.laid.labels.items l.laid.afters.items
