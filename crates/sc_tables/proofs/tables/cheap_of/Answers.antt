use Rattle.std.proofs.Common.{◌≡◌, ℕ, ◌<◌, List, [], length, get_or, arith, sym, ap, subst, ◌∙◌}
use Rattle.std.proofs.lemmas.List.{get_or_default}
use Rattle.sc_tables.specs.StepPrices.{price_in}
use Rattle.sc_tables.specs.Totals.{closed_total, IsAtMost}
use Rattle.sc_tables.proofs.PolygonTotals.{only_below, some_below}
use Rattle.sc_tables.proofs.tables.cheap_of.Goals as goal

pub first_below-requires-clause-below : goal.first_below-requires-clause-below
first_below-requires-clause-below g c =
    subst (λ (ws : List (List ℕ)). ¬ ((k : ℕ) → k < length ws → IsAtMost (g.W.Weight.levels c.args.threshold.now) (closed_total (price_in g.W.Weight.levels c.args.prices.now) (get_or ws k [])))) (sym c.as_slice.ensures.value)
    (some_below c.args.chain.now (price_in g.W.Weight.levels c.args.prices.now) (g.W.Weight.levels c.args.threshold.now) c.args.walk.now c.in_ok-polygons.polygons.items c.requires.above c.requires.walk c.in_ok-polygons.ensures.steps)

pub returns-in-len1-clause-polygon : goal.returns-in-len1-clause-polygon
returns-in-len1-clause-polygon g c =
    let one : length c.as_slice.result.now ≡ 1 = omega (arith, c.in-len1.len_at_least, c.in-len1.len_below) in
    let inside : 0 < length c.as_slice.result.now = omega arith in
    let at : c.in_ok-copy-in-len1.field-0 ≡ get_or c.in_ok-polygons.polygons.items 0 [] =
    c.in_ok-copy-in-len1.ensures ∙ c.only-item.is ∙ get_or_default c.as_slice.result.now 0 c.only-item.result [] inside ∙ ap (λ (ws : List (List ℕ)). get_or ws 0 []) c.as_slice.ensures.value in
    only_below c.args.chain.now (price_in g.W.Weight.levels c.args.prices.now) (g.W.Weight.levels c.args.threshold.now) c.args.walk.now c.in_ok-copy-in-len1.field-0 c.in_ok-polygons.polygons.items
    (ap (λ (ws : List (List ℕ)). length ws) (sym c.as_slice.ensures.value) ∙ one) at c.in_ok-polygons.ensures.polygons c.requires.walk c.in_ok-polygons.ensures.steps
