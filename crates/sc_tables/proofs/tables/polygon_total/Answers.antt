use Rattle.std.proofs.Common.{◌≡◌, ℕ, length, ap, ◌∙◌, arith}
use Rattle.sc_tables.specs.StepPrices.{price_in}
use Rattle.sc_tables.specs.inside.CheapPolygons.{total_after}
use Rattle.sc_tables.proofs.PolygonTotals.{total-all}
use Rattle.sc_tables.proofs.tables.polygon_total.Goals as goal

pub returns-clause-total : goal.returns-clause-total
returns-clause-total g c =
    let end : c.loop-place.place ≡ length c.args.walk.now = omega arith in
    c.loop-place.invariant ∙ ap (λ (n : ℕ). total_after (price_in g.W.Weight.levels c.args.prices.now) c.args.walk.now n) end
    ∙ total-all (price_in g.W.Weight.levels c.args.prices.now) c.args.chain.now c.args.walk.now c.requires.polygon.closed
