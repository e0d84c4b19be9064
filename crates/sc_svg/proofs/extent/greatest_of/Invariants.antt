use Rattle.std.proofs.Common.{take}
use Rattle.sc_svg.specs.Fans.{IsGreatest}
use Rattle.sc_svg.specs.inside.Extents.{IsBounded}
use Rattle.sc_svg.proofs.extent.greatest_of.Given as goal

abbrev pub invariant-loop-corner : goal.invariant-loop-corner
invariant-loop-corner l = IsGreatest (take l.corner-index l.corners) l.greatest × IsBounded l.greatest
