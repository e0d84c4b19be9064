use Rattle.std.proofs.Common.{take}
use Rattle.sc_assembly.specs.Multiples.{AreCounts}
use Rattle.sc_assembly.proofs.counting.counts_of.Given as goal

abbrev pub invariant-loop-part : goal.invariant-loop-part
invariant-loop-part l = AreCounts l.n (take l.part-index l.parts) l.counts.items
