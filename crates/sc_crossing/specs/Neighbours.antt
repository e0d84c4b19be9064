-- What a direction with a list is in the plane of two chains.
use Rattle.sc_cone.specs.declared.Direction.{Direction}
use Rattle.sc_cone.specs.Searches.{Reached}
use Rattle.sc_crossing.specs.declared.next.FarDirection.{FarDirection}
use Rattle.sc_crossing.specs.declared.reached.Reached.{Reached as ReachedParts}

abbrev pub reached_of : ReachedParts → Reached
reached_of r = record { direction = r.direction; list = r.list }

-- a direction of any size
abbrev pub direction_of : FarDirection → Direction
direction_of d = record { s = d.s; t = d.t }
