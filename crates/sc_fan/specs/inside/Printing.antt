-- Said by private functions alone: the text of a fan in pieces.
use Rattle.std.specs.Prelude.{◌≡◌, ℕ, ◌≤◌, List, ◌++◌, map, length, All, codes}
use Rattle.std.specs.List.{flat_map, enumerate_from}
use Rattle.sc_theory.specs.Prices.{Prices}
use Rattle.sc_cone.specs.declared.Quadrant.{Quadrant}
use Rattle.sc_cone.specs.declared.Quadrant.TheVariants.{Lower, Upper}
use Rattle.sc_line.specs.Lines.{ended, count_line}
use Rattle.sc_certificate.specs.Spelled.{list_text}
use Rattle.sc_fan.specs.declared.corner.Corner.{Corner}
use Rattle.sc_fan.specs.declared.fan.Edge.{Edge}
use Rattle.sc_fan.specs.Corners.{corner_said}
use Rattle.sc_fan.specs.Fans.{quadrant_at, edge_line}
use Rattle.sc_fan.specs.Printing.{Pairs}

-- an edge with its list for the chain of these pairs
abbrev pub edge_text : Pairs → ℕ → Prices → List ℕ
edge_text ps i list = ended (edge_line i) ++ list_text ps list

-- the pairs of a quadrant's chain
abbrev pub pairs_in : Quadrant → Pairs → Pairs → Pairs
pairs_in Lower upper lower = lower
pairs_in Upper upper lower = upper

-- the pairs of the chain of the edge number i
abbrev pub edge_pairs : Pairs → Pairs → List Corner → ℕ → Pairs
edge_pairs upper lower corners i = pairs_in (quadrant_at (map corner_said corners) i) upper lower

-- the edges
abbrev pub edge_piece : Pairs → Pairs → List Corner → ℕ × Edge → List ℕ
edge_piece upper lower corners e = edge_text (edge_pairs upper lower corners e.0) e.0 e.1.list

abbrev pub edges_text : Pairs → Pairs → List Corner → List Edge → List ℕ
edges_text upper lower corners edges = flat_map (edge_piece upper lower corners) (enumerate_from 0 edges)

abbrev pub counted_edges_text : Pairs → Pairs → List Corner → List Edge → List ℕ
counted_edges_text upper lower corners edges = ended (count_line (codes "edges") (length edges)) ++ edges_text upper lower corners edges

-- each edge goes from a corner, and its list has a price for each pair of its quadrant's chain
pub record AreEdgesOf (upper lower : Pairs) (corners : List Corner) (edges : List Edge) : Type 0 where
  pub few : length edges ≤ length corners
  pub fit : All (λ e. length e.1.list.pair ≡ length (edge_pairs upper lower corners e.0)) (enumerate_from 0 edges)
