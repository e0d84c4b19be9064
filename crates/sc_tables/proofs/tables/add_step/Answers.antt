use Rattle.std.proofs.Common.{◌≡◌, ◌+◌, ℕ, List, [], ◌∷◌, ◌++◌, get_or, take, arith, sym, subst, ap, ap₂, ◌∙◌}
use Rattle.sc_weight.specs.Levels.{Levels, levels_sum}
use Rattle.sc_weight.specs.Evidence.{IsFirstWideLevel}
use Rattle.sc_whole.specs.declared.checked.Op.TheVariants.{Add}
use Rattle.sc_tables.specs.Squares.{level_of}
use Rattle.sc_tables.specs.StepPrices.{HasStep, price_in}
use Rattle.sc_tables.specs.CheapPolygons.{round, IsWideWalk}
use Rattle.sc_tables.specs.inside.CheapPolygons.{total_after}
use Rattle.sc_tables.proofs.PolygonTotals.{step_at, total-next, wide_step}
use Rattle.sc_tables.proofs.tables.add_step.Given.{Over}
use Rattle.sc_tables.proofs.tables.add_step.Goals as goal
use Rattle.sc_tables.proofs.tables.add_step.Goals.{After-price}

pub price-requires : goal.price-requires
price-requires g c =
    let step = step_at c.args.chain.now c.args.walk.now c.args.place c.requires.polygon.closed c.requires.place in
    subst (λ (k : ℕ). HasStep c.args.prices.now (get_or c.args.walk.now c.args.place 0) k) (sym c.next_on-to.ensures)
    (record { from = omega (arith, step.from, c.requires.prices.side); to = omega (arith, step.to, c.requires.prices.side); entry = c.requires.prices.step _ _ step })

priced : (g : Over) (c : After-price g) → g.W.Weight.levels c.price.result ≡ price_in g.W.Weight.levels c.args.prices.now (get_or c.args.walk.now c.args.place 0) (get_or (round c.args.walk.now) c.args.place 0)
priced g c = ap (level_of g.W.Weight.levels) c.price.ensures ∙ ap (λ (k : ℕ). price_in g.W.Weight.levels c.args.prices.now (get_or c.args.walk.now c.args.place 0) k) c.next_on-to.ensures

pub returns-in-Ok-clause-total : goal.returns-in-Ok-clause-total
returns-in-Ok-clause-total g c =
    c.in-Ok.ensures.sum ∙ ap₂ levels_sum c.requires.total (priced g ((goal.at.returns-in-Ok-clause-total g c).After-price))
    ∙ total-next (price_in g.W.Weight.levels c.args.prices.now) c.args.walk.now c.args.place c.requires.place

pub returns-in_ok-push-in-Err-clause-faults : goal.returns-in_ok-push-in-Err-clause-faults
returns-in_ok-push-in-Err-clause-faults g c =
    let price = priced g ((goal.at.returns-in_ok-push-in-Err-clause-faults g c).After-price) in
    let evidence =
    subst (λ (p : Levels). IsFirstWideLevel Add (levels_sum (total_after (price_in g.W.Weight.levels c.args.prices.now) c.args.walk.now c.args.place) p) (total_after (price_in g.W.Weight.levels c.args.prices.now) c.args.walk.now c.args.place) p c.in-Err.fault) price
    (subst (λ (a : Levels). IsFirstWideLevel Add (levels_sum a (g.W.Weight.levels c.price.result)) a (g.W.Weight.levels c.price.result) c.in-Err.fault) c.requires.total c.in-Err.ensures.evidence) in
    let walk : c.push.new.self.items ≡ take (c.args.place + 1) c.args.walk.now ++ get_or (round c.args.walk.now) c.args.place 0 ∷ [] =
    c.in_ok-push-in-Err.ensures.items ∙ ap₂ (λ (ys : List ℕ) (k : ℕ). ys ++ k ∷ []) c.in_ok-steps-in-Err.ensures.items c.next_on-to.ensures in
    subst (λ (ws : List ℕ). IsWideWalk c.args.chain.now (price_in g.W.Weight.levels c.args.prices.now) ws c.in-Err.fault.level c.in-Err.fault.wide) (sym walk)
    (wide_step c.args.chain.now (price_in g.W.Weight.levels c.args.prices.now) c.args.walk.now c.args.place c.in-Err.fault c.requires.polygon c.requires.place evidence)
