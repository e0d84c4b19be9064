-- Said by private functions alone: the flaws of a list of sides that is no labelled fatgraph, and which is the first.
use Rattle.std.specs.Prelude.{◌≡◌, ℕ, ◌<◌, Option, Some, None, List, length, get_or}
use Rattle.sc_theory.specs.Chains.{Chain, positions}
use Rattle.sc_theory.specs.Fatgraphs.{Sides, label, mate, next, sides_at}

-- the answer of a search for the least place with a fact: that place, or that there is none
abbrev pub IsLeastPlace : (ℕ → Type 0) → Option ℕ → Type 0
IsLeastPlace P None = (p : ℕ) → ¬ P p
IsLeastPlace P (Some p) = P p × ((q : ℕ) → q < p → ¬ P q)

-- every label is a position, and every mate and next is a side
pub record AreInRange (c : Chain) (g : Sides) : Type 0 where
  pub labels : (s : ℕ) → s < length g → label g s < positions c
  pub mates : (s : ℕ) → s < length g → mate g s < length g
  pub nexts : (s : ℕ) → s < length g → next g s < length g

-- the numbers of sides that have the positions as their labels
abbrev pub AreLabelCounts : Chain → Sides → List ℕ → Type 0
AreLabelCounts c g tally = (i : ℕ) → i < positions c → get_or tally i 0 ≡ sides_at g i
