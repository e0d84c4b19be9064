use Rattle.std.proofs.Common.{◌≡◌, ◌∙◌, true, false, arith, sym}
use Rattle.sc_solve.proofs.TryLaws.{stop_within}
use Rattle.sc_solve.proofs.tries.refusal_of.Goals as goal
use Rattle.sc_solve.proofs.tries.refusal_of.Goals.{else-most-budget-via-then-most-budget+else-is_budget, else-most-budget-via-else-most-budget}

pub returns-else-most-budget : goal.returns-else-most-budget
returns-else-most-budget c = λ chain is.
    elim c.else-most-budget.branch [
      | else-most-budget-via-then-most-budget+else-is_budget w ↦
          stop_within chain c.args.most c.args.budget c.requires c.args.failure.fault (λ all. let wrong : false ≡ true = sym w.if-is_budget.false ∙ w.is_budget.ensures ∙ all in cc) is
      | else-most-budget-via-else-most-budget w ↦ stop_within chain c.args.most c.args.budget c.requires c.args.failure.fault (λ all. omega (arith, w.if-most-budget.false)) is
    ]
