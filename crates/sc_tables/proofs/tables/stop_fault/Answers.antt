use Rattle.std.proofs.Common.{ℕ, List, sym, subst}
use Rattle.sc_tables.specs.StepPrices.{price_in}
use Rattle.sc_tables.specs.declared.search.Stop.{Stop}
use Rattle.sc_tables.specs.declared.tables.TableFault.TheVariants.{Wide}
use Rattle.sc_tables.specs.CheapPolygons.{IsWideWalk}
use Rattle.sc_tables.specs.inside.CheapPolygons.{ShowsStop}
use Rattle.sc_tables.proofs.ReadingBack.{wide_walk}
use Rattle.sc_tables.proofs.tables.stop_fault.Goals as goal

pub returns : goal.returns
returns g c =
    subst (λ (stop : Stop). ShowsStop g.W.Weight.levels c.args.nodes.now stop (Wide c.push.new.self c.in-Wide.wide.level c.in-Wide.wide.wide)) (sym c.in-Wide.is)
    (λ ch t s most end fits are is inside short.
    subst (λ (ws : List ℕ). IsWideWalk ch (price_in g.W.Weight.levels t) ws c.in-Wide.wide.level c.in-Wide.wide.wide) (sym c.in_ok-push.ensures.items)
    (wide_walk g.W.Weight.levels ch t s most end c.in-Wide.node c.in-Wide.to c.in-Wide.wide c.args.nodes.now c.in_ok-walk.walk.items fits are is inside short c.in_ok-walk.ensures))
