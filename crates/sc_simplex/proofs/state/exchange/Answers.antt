use Rattle.std.proofs.Common.{◌∙◌, ℕ, List, length, ℤ, Option, ap, subst}
use Rattle.std.proofs.lemmas.Result.{err_from_is_err_and}
use Rattle.sc_basis.specs.Products.{at}
use Rattle.sc_basis.proofs.RowOrder.{leaves_from_least}
use Rattle.sc_rows.specs.Lines.{row_of}
use Rattle.sc_rows.specs.Standing.{numbers_of}
use Rattle.sc_rows.specs.Evidence.{IsWideAlong, IsWidePivot, IsWidePricePivot}
use Rattle.sc_rows.proofs.StandingLaws.{stand_together}
use Rattle.sc_simplex.specs.inside.Leaving.{IsLeastOrNone}
use Rattle.sc_simplex.specs.inside.Evidence.{IsWideFor}
use Rattle.sc_simplex.proofs.Exchanges.{fault_weaker, none_tie}
use Rattle.sc_simplex.proofs.WideLaws.{value_for, along_for, pivot_for, prices_for}
use Rattle.sc_simplex.proofs.state.exchange.Goals as goal

pub returns-in_err-along-clause-evidence : goal.returns-in_err-along-clause-evidence
returns-in_err-along-clause-evidence c =
    let p = err_from_is_err_and c.from_residual.result c.from_residual.ensures.1 in
    rw (p.1, p.2) (
    fault_weaker (IsWideAlong c.args.rows.now c.args.column.now.items) (IsWideFor (length c.args.rows.now) (at c.args.rhs.now.items) (numbers_of c.args.rows.now c.args.prices.now) c.args.column.now.items)
    (λ w h. along_for (at c.args.rhs.now.items) c.args.rows.now c.args.prices.now c.args.column.now.items c.requires.ready.improves w h) _ c.in_err-along.ensures.evidence
    )

pub leaving_row-requires-clause-apart : goal.leaving_row-requires-clause-apart
leaving_row-requires-clause-apart c =
    none_tie c.args.rows.now (at c.args.rhs.now.items) (at c.as_slice.result.now) c.args.prices.now c.args.column.now.items c.requires.ready.basis
    (stand_together (length c.args.rows.now) c.requires.ready.basis c.args.rows.now c.args.prices.now c.requires.ready.rows_stand c.requires.ready.prices_stand)
    (λ i m. ap (λ (l : List ℤ). at l i) c.as_slice.ensures.value ∙ c.in_ok-along.ensures.products i m)

pub returns-in_err-row-clause-evidence : goal.returns-in_err-row-clause-evidence
returns-in_err-row-clause-evidence c =
    let p = err_from_is_err_and c.from_residual-in_err-row.result c.from_residual-in_err-row.ensures.1 in
    rw (p.1, p.2) (value_for (at c.args.rhs.now.items) c.args.rows.now c.args.prices.now c.args.column.now.items _ c.in_err-row.ensures.evidence)

pub returns-in_err-pivot-clause-evidence : goal.returns-in_err-pivot-clause-evidence
returns-in_err-pivot-clause-evidence c =
    let p = err_from_is_err_and c.from_residual-in_err-pivot.result c.from_residual-in_err-pivot.ensures.1 in
    rw (p.1, p.2) (
    fault_weaker (IsWidePricePivot (length c.args.rows.now) c.args.prices.now c.args.column.now.items (row_of c.args.rows.now c.in-Some.row) c.in-Some.row) (IsWideFor (length c.args.rows.now) (at c.args.rhs.now.items) (numbers_of c.args.rows.now c.args.prices.now) c.args.column.now.items)
    (λ w h. prices_for (at c.args.rhs.now.items) c.args.rows.now c.args.prices.now c.args.column.now.items c.requires.ready.improves c.in-Some.row
    (leaves_from_least (length c.args.rows.now) (at c.args.rhs.now.items) (numbers_of c.args.rows.now c.args.prices.now) c.args.column.now.items (at c.as_slice.result.now) c.in-Some.row
    (λ i m. ap (λ (l : List ℤ). at l i) c.as_slice.ensures.value ∙ c.in_ok-along.ensures.products i m)
    (subst (λ (o : Option ℕ). IsLeastOrNone c.args.rows.now (at c.args.rhs.now.items) (at c.as_slice.result.now) o) c.in-Some.is c.in_ok-row.ensures.least))
    w h) _ c.in_err-pivot.ensures.evidence
    )

pub returns-in_err-pivot-2-clause-evidence : goal.returns-in_err-pivot-2-clause-evidence
returns-in_err-pivot-2-clause-evidence c =
    let p = err_from_is_err_and c.from_residual-in_err-pivot-2.result c.from_residual-in_err-pivot-2.ensures.1 in
    rw (p.1, p.2) (
    fault_weaker (IsWidePivot c.args.rows.now (at c.in_ok-along.along.items) c.in-Some.row) (IsWideFor (length c.args.rows.now) (at c.args.rhs.now.items) (numbers_of c.args.rows.now c.args.prices.now) c.args.column.now.items)
    (λ w h. pivot_for (at c.args.rhs.now.items) c.args.rows.now c.args.prices.now c.args.column.now.items c.requires.ready.improves c.in-Some.row
    (leaves_from_least (length c.args.rows.now) (at c.args.rhs.now.items) (numbers_of c.args.rows.now c.args.prices.now) c.args.column.now.items (at c.as_slice.result.now) c.in-Some.row
    (λ i m. ap (λ (l : List ℤ). at l i) c.as_slice.ensures.value ∙ c.in_ok-along.ensures.products i m)
    (subst (λ (o : Option ℕ). IsLeastOrNone c.args.rows.now (at c.args.rhs.now.items) (at c.as_slice.result.now) o) c.in-Some.is c.in_ok-row.ensures.least))
    (at c.in_ok-along.along.items) w c.in_ok-along.ensures.products h) _ c.in_err-pivot-2.ensures.evidence
    )

pub returns-clause-rows : goal.returns-clause-rows
returns-clause-rows c = λ basis old. c.in_ok-pivot-2.ensures.stands basis c.args.column.now.items old c.in_ok-along.ensures.products
