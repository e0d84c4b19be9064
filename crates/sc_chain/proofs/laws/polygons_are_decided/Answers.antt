use Rattle.sc_chain.proofs.PolygonLaws.{steps_are_decided, walks_are_decided, polygons_are_decided}
use Rattle.sc_chain.proofs.laws.polygons_are_decided.Goals as goal

pub returns : goal.returns
returns c = record { steps = steps_are_decided; closed = walks_are_decided; polygons = polygons_are_decided }
