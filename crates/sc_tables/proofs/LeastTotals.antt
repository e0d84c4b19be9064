-- Tables of least totals vouch for a threshold that every closed walk reaches.
use Rattle.std.proofs.Common.{◌≡◌, ◌≢◌, ℕ, List, [], ◌∷◌, ◌++◌, ℤ, pos, ◌+ℤ◌, Option, Some, None, arith, refl, sym, ap, subst, ◌∙◌}
use Rattle.std.specs.List.{AllByRecursion}
use Rattle.std.proofs.lemmas.Int.{ints}
use Rattle.sc_theory.specs.Chains.{Chain}
use Rattle.sc_theory.specs.Walks.{IsStep, total_back}
use Rattle.sc_weight.specs.Levels.{Levels, zero_levels, levels_sum}
use Rattle.sc_tables.specs.Walks.{end_of, LeadsTo}
use Rattle.sc_tables.specs.Totals.{bulk_of, fine_of, total_along, open_total, closed_total, IsBelow, IsAtMost}
use Rattle.sc_tables.specs.Tables.{AllAtLeast, IsLeastOpenTotal, IsLeastTotal, AreLeastTotals, VouchFor}
use Rattle.sc_tables.proofs.WalkLaws.{walks-append, walks_back, end_of-append, total_along-append, total_back-is}
use Rattle.sc_tables.proofs.Repeats.{all-append}

-- ---- one step more
last_alone : (x y : ℤ) → x +ℤ (y +ℤ pos 0) ≡ x +ℤ y
last_alone x y = omega (arith, ints)

total-step : (f : ℕ → ℕ → ℤ) (s : ℕ) (js : List ℕ) (i j : ℕ) → end_of s js ≡ i → total_along f s (js ++ j ∷ []) ≡ total_along f s js +ℤ f i j
total-step f s js i j ends = total_along-append f s js (j ∷ []) ∙ last_alone (total_along f s js) (f (end_of s js) j) ∙ ap (λ (k : ℕ). total_along f s js +ℤ f k j) ends

-- one step more adds its price
pub open_total-step : (price : ℕ → ℕ → Levels) (s : ℕ) (js : List ℕ) (i j : ℕ) → end_of s js ≡ i → open_total price s (js ++ j ∷ []) ≡ levels_sum (open_total price s js) (price i j)
open_total-step price s js i j ends =
    λ k. record { bulk = total-step (bulk_of price) s js i j ends k; fine = total-step (fine_of price) s js i j ends k }

-- a walk that doesn't come back to s doesn't with one step more to a position other than s
pub leads-step : (c : Chain) (s i j : ℕ) (js : List ℕ) → LeadsTo c s i js → IsStep c i j → s ≢ j → LeadsTo c s j (js ++ j ∷ [])
leads-step c s i j js leads step away =
    record {
      walks = walks-append c s js (j ∷ []) leads.walks (subst (λ (k : ℕ). IsStep c k j) (sym leads.ends) step, tt);
      away = all-append (λ k. s ≢ k) js (j ∷ []) leads.away (away, tt);
      ends = end_of-append s js (j ∷ []);
    }

total-back : (f : ℕ → ℕ → ℤ) (s : ℕ) (js : List ℕ) (i : ℕ) → end_of s js ≡ i → total_back f s s js ≡ total_along f s js +ℤ f i s
total-back f s js i ends = total_back-is f s s js ∙ ap (λ (k : ℕ). total_along f s js +ℤ f k s) ends

-- a closed walk costs its walk out from s and the step back
pub closed_total-back : (price : ℕ → ℕ → Levels) (s : ℕ) (js : List ℕ) (i : ℕ) → end_of s js ≡ i → closed_total price (s ∷ js) ≡ levels_sum (open_total price s js) (price i s)
closed_total-back price s js i ends =
    λ k. record { bulk = total-back (bulk_of price) s js i ends k; fine = total-back (fine_of price) s js i ends k }

-- ---- the walk without steps is the only one from s to s that doesn't come back
end_apart : (s : ℕ) (i : ℕ) (js : List ℕ) → s ≢ i → AllByRecursion (λ k. s ≢ k) js → end_of i js ≢ s
end_apart s i [] away all e = away (sym e)
end_apart s i (j ∷ js) away all e = end_apart s j js all.0 all.1 e

-- a walk from s that ends there has no steps, since it doesn't come back
pub no_steps : (c : Chain) (s : ℕ) (js : List ℕ) → LeadsTo c s s js → js ≡ []
no_steps c s [] leads = refl
no_steps c s (j ∷ js) leads = absurd (end_apart s j js leads.away.0 leads.away.1 leads.ends)

pub stays : (c : Chain) (s : ℕ) → LeadsTo c s s []
stays c s = record { walks = tt; away = tt; ends = refl }

-- ---- the law
module _ (c : Chain) (price : ℕ → ℕ → Levels) where
  at_start : (s : ℕ) (o : Option Levels) → IsLeastTotal c price s s o → o ≡ Some zero_levels
  at_start s None none = absurd (none [] (stays c s))
  at_start s (Some a) least =
      let (js, leads, total) = least.reached in
      ap Some (sym total ∙ ap (open_total price s) (no_steps c s js leads))

  reaches : (s j : ℕ) (o : Option Levels) → IsLeastTotal c price s j o → (js : List ℕ) → LeadsTo c s j js → (b : Levels) × (o ≡ Some b) × IsAtMost b (open_total price s js)
  reaches s j None none js leads = absurd (none js leads)
  reaches s j (Some b) least js leads = (b, refl, least.least js leads)

  is_reached : (s i : ℕ) (o : Option Levels) (a : Levels) → o ≡ Some a → IsLeastTotal c price s i o → IsLeastOpenTotal c price s i a
  is_reached s i o a e least = subst (IsLeastTotal c price s i) e least

  -- where every closed walk reaches a threshold above 0, tables of least totals vouch for it
  pub vouches : (threshold : Levels) (entry : ℕ → ℕ → Option Levels) → IsBelow zero_levels threshold → AllAtLeast c price threshold → AreLeastTotals c price entry → VouchFor c price threshold entry
  vouches threshold entry above all least =
      record {
        starts = λ s inside. at_start s (entry s s) (least s s inside inside);
        goes = λ s i j a inside step present other.
            (let (js, leads, total) = (is_reached s i (entry s i) a present (least s i inside step.from)).reached in
            let (b, is, low) = reaches s j (entry s j) (least s j inside step.to) (js ++ j ∷ []) (leads-step c s i j js leads step (λ e. other (sym e))) in
            (b, is, subst (IsAtMost b) (open_total-step price s js i j leads.ends ∙ ap (λ (t : Levels). levels_sum t (price i j)) total) low));
        returns = λ s i a inside step present.
            (let (js, leads, total) = (is_reached s i (entry s i) a present (least s i inside step.from)).reached in
            let closed = walks_back c s s js leads.walks (subst (λ (k : ℕ). IsStep c k s) (sym leads.ends) step) in
            subst (IsAtMost threshold) (closed_total-back price s js i leads.ends ∙ ap (λ (t : Levels). levels_sum t (price i s)) total) (all (s ∷ js) closed));
      }
