use Rattle.std.proofs.Common.{ℕ, ◌<◌, [], get_or}
use Rattle.sc_tables.specs.StepPrices.{price_in}
use Rattle.sc_tables.specs.Totals.{closed_total, IsAtMost}
use Rattle.sc_tables.proofs.tables.first_below.Given as goal

abbrev pub invariant-loop-polygon : goal.invariant-loop-polygon
invariant-loop-polygon g l = (k : ℕ) → k < l.polygon-index → IsAtMost (g.W.Weight.levels l.threshold) (closed_total (price_in g.W.Weight.levels l.prices) (get_or l.polygons k []))
