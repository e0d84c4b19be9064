use Rattle.std.proofs.Common.{FitsSigned, to_z-of_z, rules}
use Rattle.std.specs.Int.{w128}
use Rattle.std.proofs.lemmas.Result.{err_from_is_err_and}
use Rattle.sc_basis.specs.Products.{at}
use Rattle.sc_rows.proofs.product.product_with_list.Goals as goal

pub returns-in_err-sum-clause-evidence : goal.returns-in_err-sum-clause-evidence
returns-in_err-sum-clause-evidence c =
    let x : FitsSigned w128 (at c.args.list.now c.loop-index.index) = search rules in
    let y : FitsSigned w128 (at c.args.other.now c.loop-index.index) = search rules in
    let wide = simp (to_z-of_z x, to_z-of_z y, c.loop-index.invariant.sum) at c.in_err-sum.ensures.evidence in
    let p = err_from_is_err_and c.from_residual.result c.from_residual.ensures.1 in
    rw (p.1, p.2) (c.loop-index.index, c.loop-index-test.true, wide)
