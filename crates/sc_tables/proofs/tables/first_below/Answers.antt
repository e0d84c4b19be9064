use Rattle.std.proofs.Common.{◌≡◌, ℕ, List, [], get_or, arith, sym, subst, ◌∙◌, inl, inr}
use Rattle.std.proofs.lemmas.Bool.{cases_lt}
use Rattle.std.proofs.lemmas.List.{get_or_default}
use Rattle.sc_tables.specs.StepPrices.{price_in}
use Rattle.sc_tables.specs.Totals.{closed_total, IsAtMost}
use Rattle.sc_tables.proofs.tables.first_below.Goals as goal

pub loop-polygon-preserved : goal.loop-polygon-preserved
loop-polygon-preserved g c =
    let walk : c.walk.result.now ≡ get_or c.args.polygons.now c.loop-polygon.polygon-index [] =
    c.walk.ensures.walk ∙ c.polygon-item.is ∙ get_or_default c.args.polygons.now c.loop-polygon.polygon-index c.polygon-item.result [] c.loop-polygon-test.true in
    let high : IsAtMost (g.W.Weight.levels c.args.threshold.now) (g.W.Weight.levels c.in_ok-total.total) = sym c.is_below.ensures ∙ c.if-is_below.false in
    let here : IsAtMost (g.W.Weight.levels c.args.threshold.now) (closed_total (price_in g.W.Weight.levels c.args.prices.now) (get_or c.args.polygons.now c.loop-polygon.polygon-index [])) =
    subst (λ (ws : List ℕ). IsAtMost (g.W.Weight.levels c.args.threshold.now) (closed_total (price_in g.W.Weight.levels c.args.prices.now) ws)) walk
    (subst (IsAtMost (g.W.Weight.levels c.args.threshold.now)) c.in_ok-total.ensures.total high) in
    λ k within. elim (cases_lt k c.loop-polygon.polygon-index) [
      | inl before ↦ c.loop-polygon.invariant k before
      | inr last ↦
          (let at : c.loop-polygon.polygon-index ≡ k = omega arith in
          subst (λ (n : ℕ). IsAtMost (g.W.Weight.levels c.args.threshold.now) (closed_total (price_in g.W.Weight.levels c.args.prices.now) (get_or c.args.polygons.now n []))) at here)
    ]
