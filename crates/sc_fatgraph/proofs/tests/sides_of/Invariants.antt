use Rattle.std.proofs.Common.{◌≡◌, length}
use Rattle.sc_fatgraph.proofs.tests.sides_of.Given as goal

abbrev pub invariant-loop-triple : goal.invariant-loop-triple
invariant-loop-triple l = length l.sides ≡ l.triple-index
