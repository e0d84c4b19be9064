-- The search of a quadrant as it is made.
use Rattle.std.specs.Prelude.{List, map}
use Rattle.sc_cone.specs.Searches.{Reached}
use Rattle.sc_ball.specs.declared.solved.Solved.{Solved}
use Rattle.sc_ball.specs.Solved.{seen}

abbrev pub entries_of : List Solved → List Reached
entries_of entries = map seen entries
