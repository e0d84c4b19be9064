use Rattle.std.proofs.Common.{◌≡◌, ◌*◌, ◌+◌, List, Option, sym, subst, arith}
use Rattle.sc_tables.proofs.StepCells.{AreCells, next_cell, for_chain, prices_are}
use Rattle.sc_tables.proofs.prices.StepPrices.build.Goals as goal

pub loop-cell-preserved : goal.loop-cell-preserved
loop-cell-preserved g c =
    subst (λ (os : List (Option g.row.W.Denot)). AreCells g.W.Weight.levels c.args.chain.now c.as_slice-pair.result.now c.as_slice-base.result.now c.positions-side.result (c.loop-cell.cell + 1) os) (sym c.in_ok-push.ensures.items)
    (next_cell g.W.Weight.levels c.args.chain.now c.as_slice-pair.result.now c.as_slice-base.result.now c.positions-side.result c.loop-cell.cell c.loop-cell.cells.items c.in_ok-step_price.field-0 c.loop-cell.invariant c.in_ok-step_price.ensures.price)

pub returns-clause-steps : goal.returns-clause-steps
returns-clause-steps g c =
    let end : c.loop-cell.cell ≡ c.positions-side.result * c.positions-side.result = omega (arith, c.loop-cell-test.false, c.loop-cell.auto.cell-end) in
    for_chain g.W.Weight.levels c.args.chain.now c.as_slice-pair.result.now c.as_slice-base.result.now (record { side = c.positions-side.result; cells = c.loop-cell.cells.items }) c.positions-side.ensures.positions
    (subst (λ n. AreCells g.W.Weight.levels c.args.chain.now c.as_slice-pair.result.now c.as_slice-base.result.now c.positions-side.result n c.loop-cell.cells.items) end c.loop-cell.invariant)

pub returns-clause-prices : goal.returns-clause-prices
returns-clause-prices g c =
    let end : c.loop-cell.cell ≡ c.positions-side.result * c.positions-side.result = omega (arith, c.loop-cell-test.false, c.loop-cell.auto.cell-end) in
    let are =
    subst (λ (ps : List g.row.W.Denot). AreCells g.W.Weight.levels c.args.chain.now ps c.args.base.now.items c.positions-side.result (c.positions-side.result * c.positions-side.result) c.loop-cell.cells.items) c.as_slice-pair.ensures.value
    (subst (λ (bs : List g.row.W.Denot). AreCells g.W.Weight.levels c.args.chain.now c.as_slice-pair.result.now bs c.positions-side.result (c.positions-side.result * c.positions-side.result) c.loop-cell.cells.items) c.as_slice-base.ensures.value
    (subst (λ n. AreCells g.W.Weight.levels c.args.chain.now c.as_slice-pair.result.now c.as_slice-base.result.now c.positions-side.result n c.loop-cell.cells.items) end c.loop-cell.invariant)) in
    prices_are g.W.Weight.levels c.args.chain.now c.args.pair.now.items c.args.base.now.items (record { side = c.positions-side.result; cells = c.loop-cell.cells.items }) c.positions-side.ensures.positions are
