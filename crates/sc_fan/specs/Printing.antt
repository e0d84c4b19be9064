-- The text of a fan in pieces.
use Rattle.std.specs.Prelude.{ℕ, List, codes}
use Rattle.sc_line.specs.Lines.{ended, text_of}
use Rattle.sc_text.specs.Surfaces.{ending}
use Rattle.sc_fan.specs.declared.printing.Part.{Part}
use Rattle.sc_fan.specs.declared.printing.Part.TheVariants.{Heading, First, Second, Corners, Edges, End}
use Rattle.sc_fan.specs.Fans.{FanSaid, heading, chain_lines, corners_lines, edges_lines}

abbrev pub Pairs : Type 0
Pairs = List (ℕ × ℕ)

-- the bytes of a part
abbrev pub part_text : FanSaid → Part → List ℕ
part_text v Heading = ended heading
part_text v First = text_of (chain_lines (codes "first") v.first)
part_text v Second = text_of (chain_lines (codes "second") v.second)
part_text v Corners = text_of (corners_lines v.corners)
part_text v Edges = text_of (edges_lines v.first v.second v.corners v.lists)
part_text v End = ended ending
