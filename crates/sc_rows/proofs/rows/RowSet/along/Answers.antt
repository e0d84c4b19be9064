use Rattle.std.proofs.Common.{◌≡◌, ◌<◌, ◌∙◌, ap, arith, List, length}
use Rattle.std.proofs.lemmas.Result.{err_from_is_err_and}
use Rattle.sc_rows.specs.Lines.{Line}
use Rattle.sc_rows.proofs.rows.RowSet.along.Goals as goal

pub returns-in_err-product_at-clause-evidence : goal.returns-in_err-product_at-clause-evidence
returns-in_err-product_at-clause-evidence c =
    let rows : c.as_slice-rows.result.now ≡ c.args.self.now = c.as_slice-rows.ensures.value ∙ c.self.view_is in
    let column : c.as_slice-column.result.now ≡ c.args.column.now.items = c.as_slice-column.ensures.value in
    let inside : c.loop-index.index < length c.args.self.now = omega (arith, ap (λ (xs : List Line). length xs) rows) in
    let wide = simp (rows, column) at c.in_err-product_at.ensures.evidence in
    let p = err_from_is_err_and c.from_residual-in_err-product_at.result c.from_residual-in_err-product_at.ensures.1 in
    rw (p.1, p.2) (c.loop-index.index, inside, wide)
