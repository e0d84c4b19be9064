-- Halves of a fan, and the arcs that lead to them.
use Rattle.sc_fan.specs.declared.corner.Corner.{Corner as CornerParts}
use Rattle.sc_ball.specs.declared.solved.Solved.{Solved}

-- a solved direction as a corner, in the code and in the plane
abbrev pub corner_in : Solved → CornerParts
corner_in s = record { direction = s.reached.direction; value = s.value }
