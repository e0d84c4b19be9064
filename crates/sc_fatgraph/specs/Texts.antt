-- Fatgraphs as texts.
use Rattle.std.specs.Prelude.{ℕ, ◌<◌, ◌≤◌, List, length}
use Rattle.sc_theory.specs.Chains.{Chain, weight}
use Rattle.sc_text.specs.declared.limits.TheConstants.{MAX_WEIGHT}
use Rattle.sc_text.specs.Surfaces.{surface_text}
use Rattle.sc_fatgraph.specs.Surfaces.{Surface}

abbrev pub text_of_surface : Surface → List ℕ
text_of_surface f = surface_text f.chain f.copies f.sides

-- the weights of a chain are those that a text may have
abbrev pub HaveWeights : Chain → Type 0
HaveWeights c = (w : ℕ) → w < length c → (1 ≤ weight c w) × (weight c w ≤ MAX_WEIGHT)
