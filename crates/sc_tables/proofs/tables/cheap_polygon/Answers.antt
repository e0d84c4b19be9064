use Rattle.std.proofs.Common.{◌≡◌, ◌<◌, ℕ, ◌+◌, ◌*◌, List, Option, None, IfNone, Vec, Global, get_or, length, arith, sym, subst, ◌∙◌}
use Rattle.sc_theory.specs.Chains.{positions}
use Rattle.sc_tables.proofs.AllTables.{IsSearched, all_at_least, are_least, vouch}
use Rattle.sc_tables.specs.StepPrices.{price_in}
use Rattle.sc_tables.specs.inside.Trails.{AreTotalsAfter}
use Rattle.sc_tables.proofs.SearchedTables.{AreSearched, next_searched, all_tables}
use Rattle.sc_tables.specs.CheapPolygons.{entry_in}
use Rattle.sc_tables.specs.declared.search.Node.{Node}
use Rattle.std.specs.Option.{option_map}
use Rattle.sc_tables.specs.inside.States.{IsDone}
use Rattle.sc_tables.proofs.tables.cheap_polygon.Given.{Over}
use Rattle.sc_tables.proofs.tables.cheap_polygon.Goals as goal
use Rattle.sc_tables.proofs.tables.cheap_polygon.Goals.{After-loop-start}

pub loop-start-preserved : goal.loop-start-preserved
loop-start-preserved g c =
    let inside : c.loop-start.start < positions c.args.chain.now = omega (arith, c.loop-start-test.true, c.positions-side.ensures.positions) in
    let done = subst (λ (o : Option (Vec ℕ Global)). IfNone o (IsDone g.W.Weight.levels c.args.chain.now c.args.prices.now (g.W.Weight.levels c.args.threshold.now) c.loop-start.start c.closed_walk.new.trails.nodes.items c.closed_walk.new.trails.table.items)) c.in_default.is c.in_ok-walk.ensures.done in
    let totals =
    subst (λ (os : List (Option ℕ)). AreTotalsAfter c.closed_walk.new.trails.nodes.items os c.loop-start.cells.items c.append_totals.new.cells.items (length os)) c.as_slice-in-loop-start-2.ensures.value
    (subst (λ (ns : List (Node g.row.W.Denot)). AreTotalsAfter ns c.as_slice-in-loop-start-2.result.now c.loop-start.cells.items c.append_totals.new.cells.items (length c.as_slice-in-loop-start-2.result.now)) c.as_slice-in-loop-start.ensures.value c.in_ok-append_totals.ensures) in
    next_searched g.W.Weight.levels c.args.chain.now c.args.prices.now (g.W.Weight.levels c.args.threshold.now) c.loop-start.start c.closed_walk.new.trails.nodes.items c.closed_walk.new.trails.table.items
    c.requires.prices inside c.in_ok-walk.ensures.walks done c.loop-start.cells.items c.append_totals.new.cells.items c.loop-start.invariant totals

searched : (g : Over) (c : After-loop-start g) → c.loop-start.start ≡ c.positions-side.result → (s : ℕ) → s < positions c.args.chain.now →
    IsSearched c.args.chain.now (price_in g.W.Weight.levels c.args.prices.now) (g.W.Weight.levels c.args.threshold.now) s (λ j. option_map g.W.Weight.levels (get_or c.loop-start.cells.items (s * c.positions-side.result + j) None))
searched g c end =
    let same : c.args.prices.now.side ≡ c.positions-side.result = c.requires.prices.side ∙ sym c.positions-side.ensures.positions in
    all_tables g.W.Weight.levels c.args.chain.now (price_in g.W.Weight.levels c.args.prices.now) (g.W.Weight.levels c.args.threshold.now) c.positions-side.result c.loop-start.start c.loop-start.cells.items c.positions-side.ensures.positions end
    (subst (λ (n : ℕ). AreSearched g.W.Weight.levels c.args.chain.now (price_in g.W.Weight.levels c.args.prices.now) (g.W.Weight.levels c.args.threshold.now) n c.loop-start.start c.loop-start.cells.items) same c.loop-start.invariant)

pub returns-clause-tables : goal.returns-clause-tables
returns-clause-tables g c =
    all_at_least c.args.chain.now (price_in g.W.Weight.levels c.args.prices.now) (g.W.Weight.levels c.args.threshold.now)
    (entry_in g.W.Weight.levels (record { side = c.positions-side.result; cells = c.loop-start.cells.items })) c.requires.threshold
    (searched g ((goal.at.returns-clause-tables g c).After-loop-start) (omega arith))

pub returns-clause-vouch : goal.returns-clause-vouch
returns-clause-vouch g c =
    vouch c.args.chain.now (price_in g.W.Weight.levels c.args.prices.now) (g.W.Weight.levels c.args.threshold.now)
    (entry_in g.W.Weight.levels (record { side = c.positions-side.result; cells = c.loop-start.cells.items })) c.requires.threshold
    (searched g ((goal.at.returns-clause-vouch g c).After-loop-start) (omega arith))

pub returns-clause-least : goal.returns-clause-least
returns-clause-least g c =
    are_least c.args.chain.now (price_in g.W.Weight.levels c.args.prices.now) (g.W.Weight.levels c.args.threshold.now)
    (entry_in g.W.Weight.levels (record { side = c.positions-side.result; cells = c.loop-start.cells.items })) c.requires.threshold
    (searched g ((goal.at.returns-clause-least g c).After-loop-start) (omega arith))
