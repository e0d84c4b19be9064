use Rattle.std.proofs.Common.{take}
use Rattle.sc_gluing.specs.Cycles.{copies_of}
use Rattle.sc_gluing.specs.Laying.{AreLaid}
use Rattle.sc_assembly.specs.Multiples.{counted}
use Rattle.sc_assembly.proofs.gluing.lay_parts.Given as goal

abbrev pub invariant-loop-place : goal.invariant-loop-place
invariant-loop-place l = AreLaid (copies_of (take l.place (counted l.parts l.counts))) l.laid.labels.items l.laid.afters.items
