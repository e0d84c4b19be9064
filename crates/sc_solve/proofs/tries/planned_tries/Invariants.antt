use Rattle.std.specs.Prelude.{IfSome}
use Rattle.sc_solve.specs.Solutions.{IsStopped}
use Rattle.sc_solve.proofs.tries.planned_tries.Given as goal

abbrev pub invariant-loop-planned : goal.invariant-loop-planned
invariant-loop-planned l = IfSome l.best (IsStopped l.chain l.budget)
