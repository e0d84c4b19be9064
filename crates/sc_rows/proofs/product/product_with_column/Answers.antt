use Rattle.std.proofs.Common.{◌≡◌, ◌∙◌, sym, ap, arith, length, ℕ, FitsSigned, to_z-of_z, rules}
use Rattle.std.specs.Int.{w128}
use Rattle.std.proofs.lemmas.Result.{err_from_is_err_and}
use Rattle.sc_basis.specs.Products.{at, dot}
use Rattle.sc_basis.specs.Bases.{entry_of}
use Rattle.sc_basis.specs.Entries.{reached, index_at, number_at}
use Rattle.sc_basis.proofs.EntryLaws.{index_inside, product_whole}
use Rattle.sc_rows.proofs.Terms.{column_term, column_wide}
use Rattle.sc_rows.proofs.product.product_with_column.Goals as goal

pub bounds-list-index : goal.bounds-list-index
bounds-list-index c = index_inside (length c.args.list.now) 0 c.args.column.now c.loop-n.n c.requires c.loop-n-test.true

pub returns-in_err-sum-clause-evidence : goal.returns-in_err-sum-clause-evidence
returns-in_err-sum-clause-evidence c =
    let x : FitsSigned w128 (at c.args.list.now (index_at c.args.column.now c.loop-n.n)) = search rules in
    let y : FitsSigned w128 (number_at c.args.column.now c.loop-n.n) = search rules in
    let wide = simp (to_z-of_z x, to_z-of_z y) at c.in_err-sum.ensures.evidence in
    let p = err_from_is_err_and c.from_residual.result c.from_residual.ensures.1 in
    rw (p.1, p.2) (
    column_wide (length c.args.list.now) c.args.product (at c.args.list.now) c.args.column.now c.loop-n.n _ _ c.requires c.loop-n-test.true c.loop-n.invariant.sum wide
    )

pub loop-n-preserved : goal.loop-n-preserved
loop-n-preserved c =
    let x : FitsSigned w128 (at c.args.list.now (index_at c.args.column.now c.loop-n.n)) = search rules in
    let y : FitsSigned w128 (number_at c.args.column.now c.loop-n.n) = search rules in
    let new : FitsSigned w128 c.in_ok-sum.sum = search rules in
    let next = simp (to_z-of_z x, to_z-of_z y) at c.in_ok-sum.ensures.value in
    record {
      sum = to_z-of_z new
          ∙ column_term (length c.args.list.now) (at c.args.list.now) c.args.column.now c.loop-n.n _ _ c.requires c.loop-n-test.true c.loop-n.invariant.sum next;
    }

pub returns-clause-value : goal.returns-clause-value
returns-clause-value c =
    let all : c.loop-n.n ≡ length c.args.column.now = omega arith in
    c.loop-n.invariant.sum
    ∙ ap (λ (n : ℕ). dot (reached c.args.column.now n) (at c.args.list.now) (entry_of c.args.column.now)) all
    ∙ sym (product_whole (length c.args.list.now) (at c.args.list.now) c.args.column.now c.requires)
