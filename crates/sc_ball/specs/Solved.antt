-- A direction of a quadrant that is solved: its value, with a list that is tight there.
use Rattle.sc_cone.specs.Searches.{Reached}
use Rattle.sc_crossing.specs.Neighbours.{reached_of}
use Rattle.sc_ball.specs.declared.solved.Solved.{Solved}

-- what it is for the search
abbrev pub seen : Solved → Reached
seen s = reached_of s.reached
