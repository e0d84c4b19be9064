use Rattle.sc_shape.specs.inside.SideLists.{AreTallies}
use Rattle.sc_shape.specs.SideLists.{is_own}
use Rattle.sc_shape.proofs.tallies.tally_inner.Given as goal

abbrev pub invariant-loop-number : goal.invariant-loop-number
invariant-loop-number l = AreTallies (is_own l.inner) l.least l.number l.counts
