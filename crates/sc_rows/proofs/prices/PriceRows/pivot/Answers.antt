use Rattle.std.proofs.Common.{◌≡◌, ◌∙◌, length, FitsSigned, to_z-of_z, rules}
use Rattle.std.specs.Int.{w128}
use Rattle.std.proofs.lemmas.Result.{err_from_is_err_and}
use Rattle.sc_weight.specs.declared.level.Level.TheVariants.{Bulk, Fine}
use Rattle.sc_rows.specs.Lines.{row_of}
use Rattle.sc_rows.proofs.PriceLaws.{bulk_wide, fine_wide, prices_made, left_positive, new_scale_positive, prices_stand_after}
use Rattle.sc_rows.proofs.prices.PriceRows.pivot.Goals as goal

pub returns-in_err-bulk-clause-evidence : goal.returns-in_err-bulk-clause-evidence
returns-in_err-bulk-clause-evidence c =
    let column : c.as_slice-column.result.now ≡ c.args.column.now.items = c.as_slice-column.ensures.value in
    let fits : FitsSigned w128 c.in_ok-product.product = search rules in
    let product = simp column at c.in_ok-product.ensures.product in
    let reduced = simp (to_z-of_z fits) at c.in_ok-left.ensures.reduced in
    let wide = simp column at c.in_err-bulk.ensures.evidence in
    let p = err_from_is_err_and c.from_residual-in_err-bulk.result c.from_residual-in_err-bulk.ensures.1 in
    rw (p.1, p.2) (
    bulk_wide (length c.args.rows.now) c.args.self.now c.args.row c.in_ok-left.left c.args.column.now.items (row_of c.args.rows.now c.args.row) c.in_ok-product.product _ c.requires.prices product reduced wide
    )

pub returns-in_err-fine-clause-evidence : goal.returns-in_err-fine-clause-evidence
returns-in_err-fine-clause-evidence c =
    let column : c.as_slice-column.result.now ≡ c.args.column.now.items = c.as_slice-column.ensures.value in
    let fits : FitsSigned w128 c.in_ok-product.product = search rules in
    let product = simp column at c.in_ok-product.ensures.product in
    let reduced = simp (to_z-of_z fits) at c.in_ok-left.ensures.reduced in
    let wide = simp column at c.in_err-fine.ensures.evidence in
    let p = err_from_is_err_and c.from_residual-in_err-fine.result c.from_residual-in_err-fine.ensures.1 in
    rw (p.1, p.2) (
    fine_wide (length c.args.rows.now) c.args.self.now c.args.row c.in_ok-left.left c.args.column.now.items (row_of c.args.rows.now c.args.row) c.in_ok-product.product _ c.requires.prices product reduced wide
    )

pub returns-clause-prices : goal.returns-clause-prices
returns-clause-prices c =
    let column : c.as_slice-column.result.now ≡ c.args.column.now.items = c.as_slice-column.ensures.value in
    let fits : FitsSigned w128 c.in_ok-product.product = search rules in
    let product = simp column at c.in_ok-product.ensures.product in
    let reduced = simp (to_z-of_z fits) at c.in_ok-left.ensures.reduced in
    let bulk = simp column at c.in_ok-bulk.ensures.updated in
    let fine = simp column at c.in_ok-fine.ensures.updated in
    let above = left_positive (length c.args.rows.now) c.in_ok-left.left (row_of c.args.rows.now c.args.row) c.args.column.now.items c.in_ok-product.product product c.requires.positive reduced in
    record {
      bulk_size = c.in_ok-bulk.ensures.size ∙ c.requires.prices.bulk_size;
      bulk_scale = new_scale_positive Bulk c.args.self.now.bulk c.in_ok-bulk.bulk c.args.row c.in_ok-left.left c.args.column.now.items c.requires.prices.bulk_scale above bulk;
      fine_size = c.in_ok-fine.ensures.size ∙ c.requires.prices.fine_size;
      fine_scale = new_scale_positive Fine c.args.self.now.fine c.in_ok-fine.fine c.args.row c.in_ok-left.left c.args.column.now.items c.requires.prices.fine_scale above fine;
    }

pub returns-clause-bulk : goal.returns-clause-bulk
returns-clause-bulk c =
    let column : c.as_slice-column.result.now ≡ c.args.column.now.items = c.as_slice-column.ensures.value in
    let fits : FitsSigned w128 c.in_ok-product.product = search rules in
    let product = simp column at c.in_ok-product.ensures.product in
    let reduced = simp (to_z-of_z fits) at c.in_ok-left.ensures.reduced in
    let bulk = simp column at c.in_ok-bulk.ensures.updated in
    prices_made (length c.args.rows.now) Bulk c.args.self.now.bulk c.in_ok-bulk.bulk c.args.row c.in_ok-left.left c.args.column.now.items (row_of c.args.rows.now c.args.row) c.in_ok-product.product c.requires.prices.bulk_size product reduced bulk

pub returns-clause-fine : goal.returns-clause-fine
returns-clause-fine c =
    let column : c.as_slice-column.result.now ≡ c.args.column.now.items = c.as_slice-column.ensures.value in
    let fits : FitsSigned w128 c.in_ok-product.product = search rules in
    let product = simp column at c.in_ok-product.ensures.product in
    let reduced = simp (to_z-of_z fits) at c.in_ok-left.ensures.reduced in
    let fine = simp column at c.in_ok-fine.ensures.updated in
    prices_made (length c.args.rows.now) Fine c.args.self.now.fine c.in_ok-fine.fine c.args.row c.in_ok-left.left c.args.column.now.items (row_of c.args.rows.now c.args.row) c.in_ok-product.product c.requires.prices.fine_size product reduced fine

pub returns-clause-stands : goal.returns-clause-stands
returns-clause-stands c =
    λ basis rows prices.
    prices_stand_after c.args.rows.now c.args.self.now (record { bulk = c.in_ok-bulk.bulk; fine = c.in_ok-fine.fine }) c.args.row basis c.args.column.now.items
    c.requires.inside c.requires.positive (returns-clause-prices c) (returns-clause-bulk c) (returns-clause-fine c) rows prices
