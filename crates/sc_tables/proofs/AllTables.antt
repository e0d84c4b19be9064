-- Tables that were searched from every start: their totals are the least, and every closed walk reaches the threshold.
use Rattle.std.proofs.Common.{◌≡◌, ℕ, ◌<◌, List, [], ◌∷◌, length, Option, Some, None, refl, sym, ap, subst, ◌∙◌}
use Rattle.std.specs.Ordering.{is_lt}
use Rattle.std.proofs.lemmas.Bool.{false≢true}
use Rattle.sc_theory.specs.Chains.{Chain, positions}
use Rattle.sc_theory.specs.Walks.{IsStep}
use Rattle.sc_weight.specs.Levels.{Levels, zero_levels, levels_sum, levels_cmp}
use Rattle.sc_tables.specs.Walks.{end_of, LeadsTo}
use Rattle.sc_tables.specs.Totals.{open_total, closed_total, IsBelow, IsAtMost}
use Rattle.sc_tables.specs.Tables.{AllAtLeast, IsPolygonBelow, IsLeastTotal, AreLeastTotals, VouchFor}
use Rattle.sc_tables.proofs.Order.{at_most-trans, at_most_from_below}
use Rattle.sc_tables.proofs.WalkLaws.{walks_out, last_step, closed_inside}
use Rattle.sc_tables.proofs.Repeats.{simple_is_short}
use Rattle.sc_tables.proofs.Polygons.{polygons_decide}
use Rattle.sc_tables.proofs.ShortWalks.{short_suffices}
use Rattle.sc_tables.proofs.LeastTotals.{closed_total-back, vouches}

-- the entries are totals of walks from s that don't come back; none of such walks of fewer steps than there are
-- positions has less, and none of them comes back to s by a further step for less than the threshold
pub record IsSearched (c : Chain) (price : ℕ → ℕ → Levels) (threshold : Levels) (s : ℕ) (table : ℕ → Option Levels) : Type 0 where
  pub sound : (j : ℕ) (a : Levels) → j < positions c → table j ≡ Some a → (js : List ℕ) × LeadsTo c s j js × (open_total price s js ≡ a)
  pub under_each : (j : ℕ) (js : List ℕ) → LeadsTo c s j js → length js < positions c →
      (a : Levels) × (table j ≡ Some a) × IsAtMost a (open_total price s js)
  pub back : (i : ℕ) (js : List ℕ) → LeadsTo c s i js → length js < positions c → IsStep c i s →
      IsAtMost threshold (levels_sum (open_total price s js) (price i s))

module _ (c : Chain) (price : ℕ → ℕ → Levels) (threshold : Levels) (entry : ℕ → ℕ → Option Levels) (above : IsBelow zero_levels threshold) (tables : (s : ℕ) → s < positions c → IsSearched c price threshold s (entry s)) where
  no_polygon : (walk : List ℕ) → ¬ IsPolygonBelow c price threshold walk
  no_polygon [] found = found.polygon.closed
  no_polygon (i ∷ js) found =
      let closed = found.polygon.closed in
      let step : IsStep c (end_of i js) i = last_step c i i js closed in
      let leads : LeadsTo c i (end_of i js) js = record { walks = walks_out c i i js closed; away = found.polygon.simple.0; ends = refl } in
      let short : length js < positions c = simple_is_short (positions c) (i ∷ js) found.polygon.simple (closed_inside c (i ∷ js) closed) in
      let high : IsAtMost threshold (levels_sum (open_total price i js) (price (end_of i js) i)) = (tables i step.to).back (end_of i js) js leads short step in
      let total : closed_total price (i ∷ js) ≡ levels_sum (open_total price i js) (price (end_of i js) i) = closed_total-back price i js (end_of i js) refl in
      false≢true (sym high ∙ sym (ap (λ (t : Levels). is_lt (levels_cmp t threshold)) total) ∙ found.below)

  pub all_at_least : AllAtLeast c price threshold
  all_at_least = polygons_decide c price threshold above no_polygon

  none_negative : AllAtLeast c price zero_levels
  none_negative walk closed = at_most-trans zero_levels threshold (closed_total price walk) (at_most_from_below zero_levels threshold above) (all_at_least walk closed)

  least_at : (s j : ℕ) (inside : s < positions c) (within : j < positions c) (o : Option Levels) → entry s j ≡ o → IsLeastTotal c price s j o
  least_at s j inside within None e = λ js leads.
      (let short = short_suffices c price none_negative s j inside js leads in
      let (a, is, low) = (tables s inside).under_each j short.walk short.leads short.short in
      absurd (cc))
  least_at s j inside within (Some a) e =
      record {
        reached = (tables s inside).sound j a within e;
        least = λ js leads.
            (let short = short_suffices c price none_negative s j inside js leads in
            let (b, is, low) = (tables s inside).under_each j short.walk short.leads short.short in
            let same : b ≡ a = cc in
            at_most-trans a (open_total price s short.walk) (open_total price s js) (subst (λ (x : Levels). IsAtMost x (open_total price s short.walk)) same low) short.lower);
      }

  pub are_least : AreLeastTotals c price entry
  are_least s j inside within = least_at s j inside within (entry s j) refl

  pub vouch : VouchFor c price threshold entry
  vouch = vouches c price threshold entry above all_at_least are_least
