-- Tables that vouch for a threshold at two levels: no closed walk costs less than it.
use Rattle.std.proofs.Common.{ℕ, List, [], ◌∷◌, Option, refl, ◌∙◌}
use Rattle.sc_theory.specs.Chains.{Chain}
use Rattle.sc_theory.specs.Walks.{total_back}
use Rattle.sc_theory.proofs.Vouching.{AreAdded, closed}
use Rattle.sc_weight.specs.Levels.{Levels, zero_levels, levels_sum}
use Rattle.sc_weight.specs.Laws.{levels_sum_assoc, levels_sum_comm, levels_sum_zero}
use Rattle.sc_tables.specs.Totals.{bulk_of, fine_of, IsBelow, IsAtMost}
use Rattle.sc_tables.specs.Tables.{VouchFor, AllAtLeast}
use Rattle.sc_tables.proofs.Order.{at_most-refl, at_most-trans, at_most-sum, threshold_sum}

-- the exact total from i along js and back to the start
abbrev back_total : (ℕ → ℕ → Levels) → ℕ → ℕ → List ℕ → Levels
back_total price start i js = record { bulk = total_back (bulk_of price) start i js; fine = total_back (fine_of price) start i js }

two_levels : (t : Levels) → IsBelow zero_levels t → AreAdded zero_levels levels_sum IsAtMost t
two_levels t above = record {
  grouped = levels_sum_assoc;
  nothing = λ x. levels_sum_comm zero_levels x ∙ levels_sum_zero x;
  over = at_most-trans;
  more = λ x y z h. at_most-sum x y z z h (at_most-refl z);
  together = λ x y h k. threshold_sum t x y above h k;
}

-- where tables vouch for a threshold, every closed walk reaches it
pub bounds_closed : (c : Chain) (price : ℕ → ℕ → Levels) (threshold : Levels) (entry : ℕ → ℕ → Option Levels) → IsBelow zero_levels threshold → VouchFor c price threshold entry → AllAtLeast c price threshold
bounds_closed c price threshold entry above vouch [] walk = absurd walk
bounds_closed c price threshold entry above vouch (i ∷ js) walk =
    closed zero_levels levels_sum IsAtMost c price threshold entry (back_total price)
    (two_levels threshold above) (record { last = λ s k. refl; step = λ s k j ks. refl }) vouch i js walk
