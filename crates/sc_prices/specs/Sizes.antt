-- What is counted over a chain, and how large the numbers are that prices are added up to.
use Rattle.std.specs.Prelude.{◌≡◌, ℕ}
use Rattle.sc_theory.specs.Chains.{Chain}
use Rattle.sc_theory.specs.Fatgraphs.{Sides, vertices}
use Rattle.sc_fatgraph.specs.Surfaces.{surface, IsSmallFatgraph}

-- some labelled fatgraph with n copies of the chain, within the limits, has so many vertices
abbrev pub AreVertices : Chain → ℕ → ℕ → Type 0
AreVertices c n v = (g : Sides) × IsSmallFatgraph (surface c n g) × (v ≡ vertices g)
