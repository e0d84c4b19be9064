use Rattle.std.proofs.Common.{length}
use Rattle.sc_two.proofs.Cuts.{IsSearched}
use Rattle.sc_two.proofs.part.first_part.Given as goal

abbrev pub invariant-loop-line : goal.invariant-loop-line
invariant-loop-line l = IsSearched l.text l.rest l.count

abbrev pub decreases-loop-line : goal.decreases-loop-line
decreases-loop-line l = length l.rest
