use Rattle.std.proofs.Common.{List, map}
use Rattle.sc_cone.specs.Fans.{Corner as PlaneCorner}
use Rattle.sc_fan.specs.Corners.{corner_said, a_corner}
use Rattle.sc_fan.proofs.ReaderLaws.{AreItems}
use Rattle.sc_fan.proofs.reading.read_corner_lines.Given as goal

abbrev pub invariant-loop-index : goal.invariant-loop-index
invariant-loop-index l = AreItems (λ (b : List PlaneCorner). a_corner) l.count l.initial.lines (map corner_said l.corners.items) l.lines l._index
