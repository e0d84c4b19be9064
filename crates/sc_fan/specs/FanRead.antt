-- What a fan says in its text, and in the plane of its two chains.
use Rattle.std.specs.Prelude.{◌≡◌, ℕ, suc, ◌<◌, List, map, length, get_or}
use Rattle.sc_text.specs.ValueLines.{quotient_of}
use Rattle.sc_cone.specs.Fans.{Corner as PlaneCorner, Edge as PlaneEdge, Fan as PlaneFan, no_corner, no_edge}
use Rattle.sc_fan.specs.declared.fan.Edge.{Edge}
use Rattle.sc_fan.specs.declared.fan.Fan.{Fan}
use Rattle.sc_fan.specs.Corners.{corner_said}
use Rattle.sc_fan.specs.Fans.{FanSaid, fan_of}

abbrev pub fan_said : Fan → FanSaid
fan_said f = fan_of f.first f.second (map corner_said f.corners.items) (map (λ e. e.list) f.edges.items)

abbrev pub edge_said : Edge → PlaneEdge
edge_said e = record {
  from = record { direction = e.from; value = quotient_of e.from_value };
  to = record { direction = e.to; value = quotient_of e.to_value };
  list = e.list;
}

-- the fan with its values as two numbers each
abbrev pub plane_fan : Fan → PlaneFan
plane_fan f = record {
  first = f.first;
  second = f.second;
  corners = map corner_said f.corners.items;
  edges = map edge_said f.edges.items;
}

-- each edge goes from its corner to the next, which the text doesn't say again
abbrev pub AreJoinedTo : List PlaneCorner → List PlaneEdge → Type 0
AreJoinedTo corners edges =
    (i : ℕ) → i < length edges → ((get_or edges i no_edge).from ≡ get_or corners i no_corner) × ((get_or edges i no_edge).to ≡ get_or corners (suc i) no_corner)

abbrev pub IsJoined : PlaneFan → Type 0
IsJoined f = AreJoinedTo f.corners f.edges
