-- Walks of fewer steps than there are positions suffice where no closed walk is negative.
use Rattle.std.proofs.Common.{◌≡◌, ◌≢◌, ℕ, zero, suc, ◌+◌, ◌<◌, List, ◌∷◌, ◌++◌, length, ℤ, ◌+ℤ◌, arith, inl, inr, sym, ap, subst, ◌∙◌, length-append}
use Rattle.std.specs.List.{AllByRecursion}
use Rattle.sc_theory.specs.Chains.{Chain, positions}
use Rattle.sc_theory.specs.Walks.{walk_total}
use Rattle.sc_weight.specs.Levels.{Levels, zero_levels, levels_sum}
use Rattle.sc_tables.specs.Walks.{WalksAlong, end_of, LeadsTo}
use Rattle.sc_tables.specs.Totals.{bulk_of, fine_of, total_along, open_total, closed_total, IsAtMost}
use Rattle.sc_tables.specs.Tables.{AllAtLeast}
use Rattle.sc_tables.proofs.Order.{at_most-refl, at_most-trans, at_most_rest}
use Rattle.sc_tables.proofs.WalkLaws.{end_of-append, open_between, open_rest, total_along-cut, places_inside}
use Rattle.sc_tables.proofs.Repeats.{Repeat, simple_or_repeat, simple_is_short, all-append, all_front, all_rest}

end-cut : (i : ℕ) (a : List ℕ) (x : ℕ) (b d : List ℕ) → end_of i (a ++ x ∷ (b ++ x ∷ d)) ≡ end_of i (a ++ x ∷ d)
end-cut i a x b d = end_of-append i a (x ∷ (b ++ x ∷ d)) ∙ end_of-append x b (x ∷ d) ∙ sym (end_of-append i a (x ∷ d))

-- a walk from s to j as well, of fewer steps than a bound, that costs no more
pub record Shorter (c : Chain) (price : ℕ → ℕ → Levels) (s j : ℕ) (js : List ℕ) (bound : ℕ) : Type 0 where
  pub walk : List ℕ
  pub leads : LeadsTo c s j walk
  pub short : length walk < bound
  pub lower : IsAtMost (open_total price s walk) (open_total price s js)

module _ (c : Chain) (price : ℕ → ℕ → Levels) (sound : AllAtLeast c price zero_levels) (s j : ℕ) (inside : s < positions c) where
  -- from a walk that passes a position twice the closed walk between is cut out
  pub cut_once : (js : List ℕ) → LeadsTo c s j js → Repeat js → Shorter c price s j js (length js)
  cut_once js leads r =
      let walks : WalksAlong c s (r.before ++ r.place ∷ (r.between ++ r.place ∷ r.after)) = subst (WalksAlong c s) r.is leads.walks in
      let away : AllByRecursion (λ i. s ≢ i) (r.before ++ r.place ∷ (r.between ++ r.place ∷ r.after)) = subst (AllByRecursion (λ i. s ≢ i)) r.is leads.away in
      let size : length js ≡ length r.before + suc (length r.between + suc (length r.after)) = ap length r.is ∙ length-append r.before _ ∙ ap (λ (k : ℕ). length r.before + suc k) (length-append r.between (r.place ∷ r.after)) in
      let rest_size : length (r.before ++ r.place ∷ r.after) ≡ length r.before + suc (length r.after) = length-append r.before _ in
      let tail = all_rest (λ i. s ≢ i) r.before (r.place ∷ (r.between ++ r.place ∷ r.after)) away in
      let last = all_rest (λ i. s ≢ i) r.between (r.place ∷ r.after) tail.1 in
      let same : (f : ℕ → ℕ → ℤ) → walk_total f (r.place ∷ r.between) +ℤ total_along f s (r.before ++ r.place ∷ r.after) ≡ total_along f s js =
      λ f. sym (total_along-cut f s r.before r.place r.between r.after) ∙ ap (total_along f s) (sym r.is) in
      let total : levels_sum (closed_total price (r.place ∷ r.between)) (open_total price s (r.before ++ r.place ∷ r.after)) ≡ open_total price s js =
      λ k. record { bulk = same (bulk_of price) k; fine = same (fine_of price) k } in
      record {
        walk = r.before ++ r.place ∷ r.after;
        leads = record {
          walks = open_rest c s r.before r.place r.between r.after walks;
          away = all-append (λ i. s ≢ i) r.before (r.place ∷ r.after) (all_front (λ i. s ≢ i) r.before _ away) last;
          ends = sym (end-cut s r.before r.place r.between r.after) ∙ ap (end_of s) (sym r.is) ∙ leads.ends;
        };
        short = omega arith;
        lower = subst (IsAtMost (open_total price s (r.before ++ r.place ∷ r.after))) total
            (at_most_rest (closed_total price (r.place ∷ r.between)) _ (sound (r.place ∷ r.between) (open_between c s r.before r.place r.between r.after walks)));
      }

  shorten : (n : ℕ) (js : List ℕ) → length js < n → LeadsTo c s j js → Shorter c price s j js (positions c)
  shorten zero js short leads = absurd (omega arith)
  shorten (suc n) js short leads = elim (simple_or_repeat js) [
    | inl simple ↦
        record {
          walk = js;
          leads = leads;
          short = simple_is_short (positions c) (s ∷ js) (leads.away, simple) (inside, places_inside c s js leads.walks);
          lower = at_most-refl (open_total price s js);
        }
    | inr r ↦
        (let once = cut_once js leads r in
        let rest = shorten n once.walk (omega (arith, once.short)) once.leads in
        record { walk = rest.walk; leads = rest.leads; short = rest.short; lower = at_most-trans (open_total price s rest.walk) (open_total price s once.walk) (open_total price s js) rest.lower once.lower })
  ]

  -- for each walk there is one of fewer steps than there are positions that costs no more
  pub short_suffices : (js : List ℕ) → LeadsTo c s j js → Shorter c price s j js (positions c)
  short_suffices js leads = shorten (suc (length js)) js (omega arith) leads
