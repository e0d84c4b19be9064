use Rattle.std.proofs.Common.{◌∙◌, sym}
use Rattle.sc_chain.proofs.PolygonLaws.{polygon_if}
use Rattle.sc_chain.proofs.polygon.Polygon.of.Goals as goal

pub returns-then-is_polygon-clause-polygon : goal.returns-then-is_polygon-clause-polygon
returns-then-is_polygon-clause-polygon c =
    polygon_if c.args.chain.now c.args.walk.items _ (rw c.as_slice.ensures.value at (sym c.if-is_polygon.true ∙ c.is_polygon.ensures.polygon))

pub returns-else-is_polygon-clause-polygon : goal.returns-else-is_polygon-clause-polygon
returns-else-is_polygon-clause-polygon c =
    polygon_if c.args.chain.now c.args.walk.items _ (rw c.as_slice.ensures.value at (sym c.if-is_polygon.false ∙ c.is_polygon.ensures.polygon))
