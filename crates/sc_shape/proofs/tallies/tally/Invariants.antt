use Rattle.std.proofs.Common.{true}
use Rattle.sc_shape.specs.inside.SideLists.{AreTallies}
use Rattle.sc_shape.proofs.tallies.tally.Given as goal

abbrev pub invariant-loop-class : goal.invariant-loop-class
invariant-loop-class l = AreTallies (λ _. true) l.least l.class-index l.counts
