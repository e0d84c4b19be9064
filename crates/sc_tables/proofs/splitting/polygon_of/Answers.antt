use Rattle.std.proofs.Common.{◌≡◌, List, ℕ, ◌-◌, ◌++◌, length, take, drop, ap, sym, subst, ◌∙◌}
use Rattle.std.proofs.lemmas.Bool.{false≢true}
use Rattle.sc_tables.specs.inside.Splits.{IsPolygonOf}
use Rattle.sc_tables.proofs.SplitSteps.{rest_whole, polygon_at}
use Rattle.sc_tables.proofs.splitting.polygon_of.Goals as goal
use Rattle.sc_tables.proofs.splitting.polygon_of.Goals.{After-of}

turned : (c : After-of) → c.extend_from_slice-2.new.self.items ≡ drop c.least_place-least.result c.args.cycle.now ++ take c.least_place-least.result c.args.cycle.now
turned c =
    c.in_ok-extend_from_slice-2.ensures.items
    ∙ ap (λ (ys : List ℕ). ys ++ take c.least_place-least.result c.args.cycle.now)
    (c.in_ok-extend_from_slice.ensures.items ∙ ap (λ (ys : List ℕ). ys ++ take (length c.args.cycle.now - c.least_place-least.result) (drop c.least_place-least.result c.args.cycle.now)) c.in_ok-walk.ensures.items
    ∙ rest_whole c.args.cycle.now c.least_place-least.result)

valid : (c : After-of) → IsPolygonOf c.args.chain.now c.args.cycle.now c.extend_from_slice-2.new.self.items
valid c =
    subst (IsPolygonOf c.args.chain.now c.args.cycle.now) (sym (turned c))
    (polygon_at c.args.chain.now c.args.cycle.now c.least_place-least.result c.least_place-least.ensures.inside c.requires.closed c.requires.simple c.least_place-least.ensures.least)

pub unreachable-requires : goal.unreachable-requires
unreachable-requires c = false≢true (c.in-None.ensures.polygon.1 (valid ((goal.at.unreachable-requires c).After-of)).valid)

pub returns : goal.returns
returns c = subst (IsPolygonOf c.args.chain.now c.args.cycle.now) (sym c.in-Some.ensures.walk) (valid ((goal.at.returns c).After-of))
