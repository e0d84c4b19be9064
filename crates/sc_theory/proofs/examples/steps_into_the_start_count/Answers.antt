use Rattle.std.proofs.Common.{◌≡◌, ℕ, ◌<◌, true, ◌∷◌, [], Some, pos, ◌+ℤ◌, ◌≤ℤ◌, refl, lit<}
use lib.Signed.{le_z}
use Rattle.sc_theory.specs.Walks.{IsStep}
use Rattle.sc_theory.specs.Prices.{price, entry}
use Rattle.sc_theory.specs.Examples.{commutator, free_prices, zero_tables}
use Rattle.sc_theory.proofs.Decisions.{all_below, all_below_at, is_zero, is_zero_at, le_at}
use Rattle.sc_theory.proofs.examples.steps_into_the_start_count.Goals as goal

from_0 : IsStep commutator 0 3
from_0 = record { from = lit< tt; to = lit< tt; inverse = refl }

from_1 : IsStep commutator 1 0
from_1 = record { from = lit< tt; to = lit< tt; inverse = refl }

from_2 : IsStep commutator 2 1
from_2 = record { from = lit< tt; to = lit< tt; inverse = refl }

from_3 : IsStep commutator 3 2
from_3 = record { from = lit< tt; to = lit< tt; inverse = refl }

pub returns-clause-refused : goal.returns-clause-refused
returns-clause-refused c vouch = (vouch.returns 0 1 (pos 0) (lit< tt) from_1 refl).le

pub returns-clause-uncovered : goal.returns-clause-uncovered
returns-clause-uncovered c covers = (covers (0 ∷ 3 ∷ 2 ∷ 1 ∷ []) (from_0, (from_3, (from_2, from_1)))).le

-- each entry is 0, and each step is free
zero_entries : all_below (λ s. all_below (λ i. is_zero (entry zero_tables s i)) 4) 4 ≡ true
zero_entries = refl

free_steps : all_below (λ i. all_below (λ j. le_z (pos 0) (pos 0 +ℤ price commutator free_prices i j)) 4) 4 ≡ true
free_steps = refl

zero_entry : (s i : ℕ) → s < 4 → i < 4 → entry zero_tables s i ≡ Some (pos 0)
zero_entry s i start place =
    is_zero_at (entry zero_tables s i) (all_below_at (λ k. is_zero (entry zero_tables s k)) 4 i (all_below_at (λ r. all_below (λ k. is_zero (entry zero_tables r k)) 4) 4 s zero_entries start) place)

free_step : (i j : ℕ) → i < 4 → j < 4 → pos 0 ≤ℤ (pos 0 +ℤ price commutator free_prices i j)
free_step i j from to =
    le_at (pos 0) (pos 0 +ℤ price commutator free_prices i j) (all_below_at (λ k. le_z (pos 0) (pos 0 +ℤ price commutator free_prices i k)) 4 j (all_below_at (λ r. all_below (λ k. le_z (pos 0) (pos 0 +ℤ price commutator free_prices r k)) 4) 4 i free_steps from) to)

pub returns-clause-starts : goal.returns-clause-starts
returns-clause-starts c s inside = zero_entry s s inside inside

pub returns-clause-goes : goal.returns-clause-goes
returns-clause-goes c s i j inside step = (zero_entry s j inside step.to, free_step i j step.from step.to)
