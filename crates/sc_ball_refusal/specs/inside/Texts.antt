-- Said by private functions alone: the texts of what stops the search for the corners of a quadrant.
use Rattle.std.specs.Prelude.{ℕ, List, ◌++◌, codes}
use Rattle.sc_line.specs.Lines.{ended}
use Rattle.sc_certificate.specs.Spelled.{list_text}
use Rattle.sc_cone.specs.Searches.{Reached}
use Rattle.sc_ball_refusal.specs.Texts.{named_direction}

-- the bytes of a direction with its list, by the pairs of the quadrant's chain
abbrev pub reached_text : List (ℕ × ℕ) → Reached → List ℕ
reached_text ps r = ended (named_direction (codes "at") r.direction) ++ list_text ps r.list
