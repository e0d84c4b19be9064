-- The total of a closed walk, step by step.
use Rattle.std.proofs.Common.{◌≡◌, ℕ, zero, suc, ◌+◌, ◌<◌, ◌≤◌, List, [], ◌∷◌, ◌++◌, length, get_or, take, arith, refl, sym, ap, subst, ◌∙◌, length-append, length-take}
use Rattle.std.specs.List.{AllByRecursion}
use Rattle.std.proofs.Math.Seq.{take-length}
use Rattle.std.proofs.lemmas.List.{take_more}
use Rattle.std.proofs.lemmas.Int.{ints}
use Rattle.sc_theory.specs.Chains.{Chain, positions}
use Rattle.sc_theory.specs.Walks.{IsStep, WalksBack, IsClosedWalk, IsPolygon, walks_total}
use Rattle.sc_theory.proofs.WalkTotals.{climb, walk_total-climb}
use Rattle.sc_weight.specs.Levels.{Levels, zero_levels, levels_sum}
use Rattle.sc_weight.specs.Laws.{levels_sum_zero}
use Rattle.sc_weight.specs.Evidence.{IsFirstWideLevel}
use Rattle.sc_weight.specs.declared.level.WideLevel.{WideLevel}
use Rattle.sc_whole.specs.declared.checked.Op.TheVariants.{Add}
use Rattle.sc_tables.specs.Walks.{WalksAlong, end_of}
use Rattle.sc_tables.specs.Totals.{bulk_of, fine_of, open_total, closed_total, IsBelow, IsAtMost}
use Rattle.sc_tables.specs.Tables.{IsPolygonBelow}
use Rattle.sc_tables.specs.Splits.{HaveStepsOf}
use Rattle.sc_tables.specs.CheapPolygons.{round, IsWideWalk}
use Rattle.sc_tables.specs.inside.CheapPolygons.{total_after, IsClosedBelow}
use Rattle.sc_tables.proofs.Order.{threshold_sum, at_most_below}
use Rattle.sc_tables.proofs.WalkLaws.{walks-append, walks_out, walks_front, last_step, closed_inside}
use Rattle.sc_tables.proofs.Repeats.{simple_is_short}
use Rattle.sc_tables.proofs.LeastTotals.{open_total-step, closed_total-back}

-- ---- the step number k of a closed walk
step_back : (c : Chain) (start i : ℕ) (js : List ℕ) (k : ℕ) → WalksBack c start i js → k < suc (length js) → IsStep c (get_or (i ∷ js) k 0) (get_or (js ++ start ∷ []) k 0)
step_back c start i [] zero walk inside = walk
step_back c start i [] (suc k) walk inside = absurd (omega arith)
step_back c start i (j ∷ js) zero walk inside = walk.0
step_back c start i (j ∷ js) (suc k) walk inside = step_back c start j js k walk.1 (omega arith)

-- the step number k leads from the position number k to the next one, the last to the first
pub step_at : (c : Chain) (walk : List ℕ) (k : ℕ) → IsClosedWalk c walk → k < length walk → IsStep c (get_or walk k 0) (get_or (round walk) k 0)
step_at c [] k walk inside = absurd walk
step_at c (i ∷ js) k walk inside = step_back c i i js k walk inside

end_back : (start i : ℕ) (js : List ℕ) (k : ℕ) → k ≤ length js → end_of i (take k (js ++ start ∷ [])) ≡ get_or (i ∷ js) k 0
end_back start i js zero inside = refl
end_back start i [] (suc k) inside = absurd (omega arith)
end_back start i (j ∷ js) (suc k) inside = end_back start j js k (omega arith)

-- after k steps a closed walk stands at its position number k
pub end_after : (walk : List ℕ) (k : ℕ) → k < length walk → end_of (get_or walk 0 0) (take k (round walk)) ≡ get_or walk k 0
end_after [] k inside = absurd (omega arith)
end_after (i ∷ js) k inside = end_back i i js k (omega arith)

pub length-round : (walk : List ℕ) → length (round walk) ≡ length walk
length-round [] = refl
length-round (i ∷ js) = length-append js (i ∷ []) ∙ omega arith

-- a closed walk goes from its first position along the others and back to it
pub walks_round : (c : Chain) (walk : List ℕ) → IsClosedWalk c walk → WalksAlong c (get_or walk 0 0) (round walk)
walks_round c [] walk = absurd walk
walks_round c (i ∷ js) walk = walks-append c i js (i ∷ []) (walks_out c i i js walk) (last_step c i i js walk, tt)

front_back : (start i : ℕ) (js : List ℕ) (k : ℕ) → k ≤ length js → take (suc k) (i ∷ js) ≡ i ∷ take k (js ++ start ∷ [])
front_back start i js zero inside = refl
front_back start i [] (suc k) inside = absurd (omega arith)
front_back start i (j ∷ js) (suc k) inside = ap (λ (ys : List ℕ). i ∷ ys) (front_back start j js k (omega arith))

-- the first k + 1 positions are the first one and the ends of the first k steps
pub front_after : (walk : List ℕ) (k : ℕ) → k < length walk → take (k + 1) walk ≡ get_or walk 0 0 ∷ take k (round walk)
front_after [] k inside = absurd (omega arith)
front_after (i ∷ js) k inside = ap (λ (n : ℕ). take n (i ∷ js)) one ∙ front_back i i js k (omega arith)
  where
    one : k + 1 ≡ suc k
    one = omega arith

take_split : (xs : List ℕ) (k : ℕ) → (rest : List ℕ) × (xs ≡ take k xs ++ rest)
take_split xs zero = (xs, refl)
take_split [] (suc k) = ([], refl)
take_split (x ∷ xs) (suc k) = let (rest, is) = take_split xs k in (rest, ap (λ (ys : List ℕ). x ∷ ys) is)

-- ---- totals after some steps
module _ (price : ℕ → ℕ → Levels) (walk : List ℕ) where
  -- one step more adds its price
  pub total-next : (k : ℕ) → k < length walk → levels_sum (total_after price walk k) (price (get_or walk k 0) (get_or (round walk) k 0)) ≡ total_after price walk (k + 1)
  total-next k inside =
      sym (open_total-step price (get_or walk 0 0) (take k (round walk)) (get_or walk k 0) (get_or (round walk) k 0) (end_after walk k inside))
      ∙ ap (open_total price (get_or walk 0 0)) (sym (take_more (round walk) k 0 (omega (arith, length-round walk))))

-- after all steps the total is that of the closed walk
pub total-all : (price : ℕ → ℕ → Levels) (c : Chain) (walk : List ℕ) → IsClosedWalk c walk → total_after price walk (length walk) ≡ closed_total price walk
total-all price c [] closed = absurd closed
total-all price c (i ∷ js) closed =
    ap (open_total price i) (ap (λ (n : ℕ). take n (js ++ i ∷ [])) (sym (length-round (i ∷ js))) ∙ take-length (js ++ i ∷ []))
    ∙ open_total-step price i js (end_of i js) i refl ∙ sym (closed_total-back price i js (end_of i js) refl)

-- ---- the evidence at a step
-- where a polygon's total is too wide at the step number k, the walk up to the end of that step shows it
pub wide_step : (c : Chain) (price : ℕ → ℕ → Levels) (walk : List ℕ) (k : ℕ) (wide : WideLevel) → IsPolygon c walk → k < length walk →
    IsFirstWideLevel Add (levels_sum (total_after price walk k) (price (get_or walk k 0) (get_or (round walk) k 0))) (total_after price walk k) (price (get_or walk k 0) (get_or (round walk) k 0)) wide →
    IsWideWalk c price (take (k + 1) walk ++ get_or (round walk) k 0 ∷ []) wide.level wide.wide
wide_step c price walk k wide polygon inside evidence =
    let more : take (k + 1) (round walk) ≡ take k (round walk) ++ get_or (round walk) k 0 ∷ [] = take_more (round walk) k 0 (omega (arith, length-round walk)) in
    let (rest, is) = take_split (round walk) (k + 1) in
    let along : WalksAlong c (get_or walk 0 0) (take (k + 1) (round walk)) = walks_front c (get_or walk 0 0) (take (k + 1) (round walk)) rest (subst (WalksAlong c (get_or walk 0 0)) is (walks_round c walk polygon.closed)) in
    let short : length walk ≤ positions c = simple_is_short (positions c) walk polygon.simple (closed_inside c walk polygon.closed) in
    record {
      start = get_or walk 0 0;
      front = take k (round walk);
      last = get_or (round walk) k 0;
      is = ap (λ (ys : List ℕ). ys ++ get_or (round walk) k 0 ∷ []) (front_after walk k inside);
      steps = subst (WalksAlong c (get_or walk 0 0)) more along;
      few = omega (arith, ap length more, length-take (k + 1) (round walk), length-round walk);
      evidence = subst (λ (e : ℕ). IsFirstWideLevel Add (levels_sum (total_after price walk k) (price e (get_or (round walk) k 0))) (total_after price walk k) (price e (get_or (round walk) k 0)) wide) (sym (end_after walk k inside)) evidence;
    }

-- ---- one of the polygons of a closed walk below a threshold is below it
abbrev pub all_totals : (ℕ → ℕ → Levels) → List (List ℕ) → Levels
all_totals price ws = record { bulk = walks_total (bulk_of price) ws; fine = walks_total (fine_of price) ws }

sum_at_least : (price : ℕ → ℕ → Levels) (t : Levels) (w : List ℕ) (ws : List (List ℕ)) → IsBelow zero_levels t → ((k : ℕ) → k < length (w ∷ ws) → IsAtMost t (closed_total price (get_or (w ∷ ws) k []))) → IsAtMost t (all_totals price (w ∷ ws))
sum_at_least price t w [] above all = subst (IsAtMost t) (sym (levels_sum_zero (closed_total price w))) (all 0 (omega arith))
sum_at_least price t w (v ∷ ws) above all =
    threshold_sum t (closed_total price w) (all_totals price (v ∷ ws)) above (all 0 (omega arith)) (sum_at_least price t v ws above (λ k inside. all (suc k) (omega arith)))

not_empty : (c : Chain) (walk : List ℕ) → IsClosedWalk c walk → ¬ HaveStepsOf [] walk
not_empty c [] closed have = closed
not_empty c (i ∷ js) closed have = let none = have (climb (λ _. 0)) in let all = walk_total-climb (λ _. 0) (i ∷ js) in absurd (omega (arith, ints, none, all))

-- where a closed walk below the threshold is split into one polygon, that polygon is below it
pub only_below : (c : Chain) (price : ℕ → ℕ → Levels) (t : Levels) (walk : List ℕ) (w : List ℕ) (ws : List (List ℕ)) → length ws ≡ 1 → w ≡ get_or ws 0 [] → AllByRecursion (IsPolygon c) ws → IsClosedBelow c price t walk → HaveStepsOf ws walk → IsPolygonBelow c price t w
only_below c price t walk w [] one at all is have = absurd (omega arith)
only_below c price t walk w (v ∷ u ∷ ws) one at all is have = absurd (omega arith)
only_below c price t walk w (v ∷ []) one at all is have =
    let same : closed_total price v ≡ closed_total price walk = sym (levels_sum_zero (closed_total price v)) ∙ (λ i. record { bulk = have (bulk_of price) i; fine = have (fine_of price) i }) in
    subst (IsPolygonBelow c price t) (sym at) (record { polygon = all.0; below = subst (λ (l : Levels). IsBelow l t) (sym same) is.below })

-- where a closed walk below the threshold is split into polygons, not each of them reaches it
pub some_below : (c : Chain) (price : ℕ → ℕ → Levels) (t : Levels) (walk : List ℕ) (ws : List (List ℕ)) → IsBelow zero_levels t → IsClosedBelow c price t walk → HaveStepsOf ws walk → ¬ ((k : ℕ) → k < length ws → IsAtMost t (closed_total price (get_or ws k [])))
some_below c price t walk [] above is have all = not_empty c walk is.closed have
some_below c price t walk (w ∷ ws) above is have all =
    let same : all_totals price (w ∷ ws) ≡ closed_total price walk = λ i. record { bulk = have (bulk_of price) i; fine = have (fine_of price) i } in
    let high : IsAtMost t (closed_total price walk) = subst (IsAtMost t) same (sum_at_least price t w ws above all) in
    clash (at_most_below t (closed_total price walk) t high is.below)
  where
    clash : IsBelow t t → ⊥
    clash h = grind (arith, ints)
