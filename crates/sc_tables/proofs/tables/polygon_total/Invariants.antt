use Rattle.std.proofs.Common.{◌≡◌}
use Rattle.sc_tables.specs.StepPrices.{price_in}
use Rattle.sc_tables.specs.inside.CheapPolygons.{total_after}
use Rattle.sc_tables.proofs.tables.polygon_total.Given as goal

abbrev pub invariant-loop-place : goal.invariant-loop-place
invariant-loop-place g l = g.W.Weight.levels l.total ≡ total_after (price_in g.W.Weight.levels l.prices) l.walk l.place
