use Rattle.std.proofs.Common.{inr, inl, rules}
use Rattle.std.proofs.lemmas.Result.{err_from_is_err_and}
use Rattle.sc_fraction.proofs.steps.scaled_sum.Goals as goal

pub returns-in_err-sum-clause-evidence : goal.returns-in_err-sum-clause-evidence
returns-in_err-sum-clause-evidence c =
    let p = err_from_is_err_and c.from_residual-in_err-sum.result c.from_residual-in_err-sum.ensures.1 in
    rw (p.1, p.2) (inr (search rules, inr (search rules, inl (search rules, search rules))))

pub returns-in_err-mul-clause-evidence : goal.returns-in_err-mul-clause-evidence
returns-in_err-mul-clause-evidence c =
    let p = err_from_is_err_and c.from_residual-in_err-mul.result c.from_residual-in_err-mul.ensures.1 in
    rw (p.1, p.2) (inr (search rules, inr (search rules, inr (search rules, inl (search rules, search rules)))))
