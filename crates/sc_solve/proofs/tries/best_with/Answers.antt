use Rattle.std.specs.Prelude.{Option, IfSome}
use Rattle.std.proofs.Common.{subst}
use Rattle.sc_solve.specs.Solutions.{IsStopped}
use Rattle.sc_solve.specs.declared.solution.SolveFault.{SolveFault}
use Rattle.sc_solve.proofs.tries.best_with.Goals as goal

pub returns-in-Some : goal.returns-in-Some
returns-in-Some c = λ chain budget known is.
    c.best_of.ensures chain budget known (subst (λ (o : Option SolveFault). IfSome o (IsStopped chain budget)) c.in-Some.is is)
