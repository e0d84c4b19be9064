use Rattle.std.proofs.Common.{◌≡◌, ◌∙◌, FitsSigned, to_z, of_z, to_z-of_z, rules, ap, subst}
use Rattle.std.specs.Int.{w128}
use Rattle.sc_weight.specs.Levels.{Levels}
use Rattle.sc_tables.specs.Tables.{IsPolygonBelow, AreLeastTotals, VouchFor}
use Rattle.sc_tables.specs.Squares.{cell}
use Rattle.sc_tables.specs.StepPrices.{price_in}
use Rattle.sc_tables.specs.CheapPolygons.{IsTableFault, PolygonIsBelow, TablesVouch, TablesAreLeast, entry_in}
use Rattle.sc_solve.specs.ListSteps.{one_level, plain_levels}
use Rattle.sc_solve.proofs.ListTotals.{no_cheap_polygon, no_wide_walk, entry_small}
use Rattle.sc_solve.proofs.tabling.least_totals.Goals as goal

pub unreachable-requires : goal.unreachable-requires
unreachable-requires c =
    let fits : FitsSigned w128 c.scale.result = search rules in
    let handed : one_level (to_z w128 (of_z w128 c.scale.result)) ≡ one_level c.args.list.now.scale = ap one_level (to_z-of_z fits ∙ c.scale.ensures.scale) in
    no_cheap_polygon c.args.chain.now c.args.list.now c.args.prices.now c.requires.prices c.requires.covers c.in-Polygon.field-0
    (subst (λ (l : Levels). IsPolygonBelow c.args.chain.now (price_in plain_levels c.args.prices.now) l c.in-Polygon.field-0) handed
    (subst (PolygonIsBelow c.args.chain.now (price_in plain_levels c.args.prices.now) (one_level (to_z w128 (of_z w128 c.scale.result)))) c.in-Polygon.is c.in-Ok.ensures.polygon))

pub unreachable-requires-in-Wide : goal.unreachable-requires-in-Wide
unreachable-requires-in-Wide c =
    no_wide_walk c.args.chain.now c.args.list.now c.args.prices.now c.requires.prices c.scale.ensures.small c.requires.few c.in-Wide.walk.items c.in-Wide.level c.in-Wide.wide
    (subst (IsTableFault c.args.chain.now (price_in plain_levels c.args.prices.now)) c.in-Wide.is c.in-Err.ensures.faults)

pub returns-in-Tables-clause-vouch : goal.returns-in-Tables-clause-vouch
returns-in-Tables-clause-vouch c =
    let fits : FitsSigned w128 c.scale.result = search rules in
    let handed : one_level (to_z w128 (of_z w128 c.scale.result)) ≡ one_level c.args.list.now.scale = ap one_level (to_z-of_z fits ∙ c.scale.ensures.scale) in
    subst (λ (l : Levels). VouchFor c.args.chain.now (price_in plain_levels c.args.prices.now) l (entry_in plain_levels c.in-Tables.distances)) handed
    (subst (TablesVouch plain_levels c.args.chain.now (price_in plain_levels c.args.prices.now) (one_level (to_z w128 (of_z w128 c.scale.result)))) c.in-Tables.is c.in-Ok.ensures.vouch)

pub returns-in-Tables-clause-small : goal.returns-in-Tables-clause-small
returns-in-Tables-clause-small c =
    let least : AreLeastTotals c.args.chain.now (price_in plain_levels c.args.prices.now) (entry_in plain_levels c.in-Tables.distances) =
    subst (TablesAreLeast plain_levels c.args.chain.now (price_in plain_levels c.args.prices.now)) c.in-Tables.is c.in-Ok.ensures.least in
    λ s j start place.
    entry_small c.args.chain.now c.args.list.now c.args.prices.now c.requires.prices c.scale.ensures.small c.requires.few c.requires.covers s j start (cell c.in-Tables.distances s j) (least s j start place)
