use Rattle.std.proofs.lemmas.Result.{err_from_is_err_and}
use Rattle.sc_chain.proofs.OneFault.{fault_says, ok_says, memory_says}
use Rattle.sc_chain.proofs.chain.Chain.of_reduced.Goals as goal

pub returns-in_err-of_accepted-in-None-clause-faults : goal.returns-in_err-of_accepted-in-None-clause-faults
returns-in_err-of_accepted-in-None-clause-faults c = λ e ne.
    memory_says c.args.words.items c.from_residual.result e (rw c.as_slice.ensures.value at c.in-None.ensures) (let p = err_from_is_err_and c.from_residual.result c.from_residual.ensures.1 in rw (p.1, p.2)) ne

pub returns-in-Some-clause-faults : goal.returns-in-Some-clause-faults
returns-in-Some-clause-faults c = λ e ne. fault_says c.args.words.items c.in-Some.fault e (rw c.as_slice.ensures.value at c.in-Some.ensures)

pub returns-in_ok-of_accepted-in-None-clause-faults : goal.returns-in_ok-of_accepted-in-None-clause-faults
returns-in_ok-of_accepted-in-None-clause-faults c = λ e ne.
    ok_says c.args.words.items c.in_ok-of_accepted-in-None.field-0 e (rw c.as_slice.ensures.value at c.in-None.ensures)
