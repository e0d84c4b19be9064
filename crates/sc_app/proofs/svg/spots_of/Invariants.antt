use Rattle.std.proofs.Common.{◌≡◌, map, take}
use Rattle.sc_fan.specs.Corners.{corner_said}
use Rattle.sc_app.specs.Svg.{corner_of}
use Rattle.sc_app.proofs.svg.spots_of.Given as goal

abbrev pub invariant-loop-corner : goal.invariant-loop-corner
invariant-loop-corner l = map corner_of l.spots.items ≡ map corner_said (take l.corner-index l.corners)
