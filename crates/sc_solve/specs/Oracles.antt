-- What the oracle over polygons keeps.
use Rattle.std.specs.Prelude.{◌≡◌}
use Rattle.sc_theory.specs.Prices.{pairs}
use Rattle.sc_solve.specs.declared.searching.PolygonOracle.TheInside.{Inside}

-- the pairs are those of the chain
pub record IsPolygonOracle (o : Inside) : Type 0 where
  pub pairs_are : o.pairs ≡ pairs o.chain
