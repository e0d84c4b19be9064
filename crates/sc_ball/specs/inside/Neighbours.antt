-- Neighbours of a search with nothing due between them.
use Rattle.std.specs.Prelude.{◌⊎◌}
use Rattle.sc_theory.specs.Chains.{Chain}
use Rattle.sc_cone.specs.declared.Quadrant.{Quadrant}
use Rattle.sc_cone.specs.Values.{IsTightAt}
use Rattle.sc_cone.specs.Searches.{Reached}

-- the list of one of them is tight at the other's direction
abbrev pub IsClosed : Quadrant → Chain → Chain → Reached → Reached → Type 0
IsClosed q first second r u = IsTightAt q first second r.list u.direction ⊎ IsTightAt q first second u.list r.direction
