-- The counts of the labels of the sides below one.
use Rattle.std.proofs.Common.{◌≡◌, ℕ, ◌<◌, ◌≤◌, ◌==◌, List, length, get_or}
use Rattle.sc_algebra.specs.Sums.{count_below}
use Rattle.sc_theory.specs.Chains.{Chain, positions}
use Rattle.sc_theory.specs.Fatgraphs.{Sides, label}

-- the tally has for each position the number of sides below s with this label
pub record LabelsBelow (c : Chain) (g : Sides) (tally : List ℕ) (s : ℕ) : Type 0 where
  pub as_many : length tally ≡ positions c
  pub counts : (i : ℕ) → i < positions c → get_or tally i 0 ≡ count_below (λ t. label g t == i) s
  pub few : (i : ℕ) → i < positions c → get_or tally i 0 ≤ s
