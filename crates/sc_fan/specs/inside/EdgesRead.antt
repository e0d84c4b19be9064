-- What is due of the edges while a text is read, by the pairs of the two quadrants.
use Rattle.std.specs.Prelude.{ℕ, ◌-◌, false, List, [], length, codes}
use Rattle.sc_theory.specs.Prices.{Prices}
use Rattle.sc_line.specs.Formats.{Format}
use Rattle.sc_line.specs.Forms.{literal_due, and_then}
use Rattle.sc_fan.specs.declared.corner.Corner.{Corner}
use Rattle.sc_fan.specs.Fans.{edge_line, prices_due}
use Rattle.sc_fan.specs.Blocks.{headed_due, blocks_due}
use Rattle.sc_fan.specs.Printing.{Pairs}
use Rattle.sc_fan.specs.inside.Printing.{edge_pairs}

-- an edge's number, and its list for so many words and these pairs
abbrev pub numbered_due : ℕ → Pairs → ℕ → Format Prices
numbered_due words ps i = and_then (literal_due (edge_line i) false) (λ u. prices_due words ps)

-- the edge behind others
abbrev pub edge_behind : ℕ → Pairs → Pairs → List Corner → List Prices → Format Prices
edge_behind words upper lower corners before = numbered_due words (edge_pairs upper lower corners (length before)) (length before)

abbrev pub edges_by : ℕ → Pairs → Pairs → List Corner → Format (List Prices)
edges_by words upper lower corners =
    headed_due (codes "edges") (length corners - 1) (length corners - 1) (λ n. blocks_due (edge_behind words upper lower corners) n [])
