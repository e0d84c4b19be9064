use Rattle.std.proofs.Common.{sym, subst}
use Rattle.sc_theory.specs.Walks.{IsPolygon}
use Rattle.sc_theory.specs.Examples.{pants}
use Rattle.sc_theory.proofs.Pants.{only_polygon, polygon}
use Rattle.sc_theory.proofs.examples.polygon_of_the_pants.Goals as goal

pub returns : goal.returns
returns c walk = (only_polygon walk, λ e. subst (IsPolygon pants) (sym e) polygon)
