-- A search from a number that has no mark marks its class.
use Rattle.std.proofs.Common.{cond, ◌≡◌, ◌≢◌, ℕ, ◌+◌, ◌-◌, ◌<◌, ◌≤◌, Bool, true, false, ◌⊎◌, inl, inr, List, [], ◌∷◌, ◌++◌, length, get_or, sym, ◌∙◌, ap, subst, refl, arith, not, get_or-set_other, get_or-set_same, if◌then◌else◌}
use Rattle.std.specs.List.{count_by}
use Rattle.std.proofs.Math.ListN.{set, length-set, get_or-append}
use Rattle.std.proofs.Math.Seq.{get_or-append_seam}
use Rattle.std.proofs.lemmas.Bool.{cases_eq, cases_lt, cases_Bool, false≢true}
use Rattle.std.proofs.lemmas.List.{length_push, set-get_or}
use Rattle.std.proofs.lemmas.List.Sums.{sum_by-set}
use Rattle.sc_shape.specs.Classes.{along, LeadsTo, IsLeastLeading, entry}
use Rattle.sc_shape.specs.inside.Classes.{StaysBelow, AreLeast, IsMarked, AreClassesBelow}

-- ---- paths
along-append : (f g : ℕ → ℕ) (path more : List Bool) (s : ℕ) → along f g (path ++ more) s ≡ along f g more (along f g path s)
along-append f g [] more s = refl
along-append f g (b ∷ path) more s = along-append f g path more (if b then f s else g s)

-- a path goes on by a step of either map, or by another path
pub leads_by_first : (f g : ℕ → ℕ) (s t : ℕ) → LeadsTo f g s t → LeadsTo f g s (f t)
leads_by_first f g s t (path, e) = (path ++ true ∷ [], along-append f g path (true ∷ []) s ∙ ap f e)

pub leads_by_second : (f g : ℕ → ℕ) (s t : ℕ) → LeadsTo f g s t → LeadsTo f g s (g t)
leads_by_second f g s t (path, e) = (path ++ false ∷ [], along-append f g path (false ∷ []) s ∙ ap g e)

pub leads_further : (f g : ℕ → ℕ) (r s t : ℕ) → LeadsTo f g r s → LeadsTo f g s t → LeadsTo f g r t
leads_further f g r s t (path, e) (more, h) = (path ++ more, along-append f g path more r ∙ ap (along f g more) e ∙ h)

-- the least number is no greater than the number itself
pub least_at_most : (f g : ℕ → ℕ) (n s r : ℕ) → s < n → IsLeastLeading f g n s r → r ≤ s
least_at_most f g n s r l h = h.least s l ([], refl)

-- what is marked leads to what is marked
closed_along : (f g : ℕ → ℕ) (n : ℕ) (marks : List Bool) → StaysBelow n f → StaysBelow n g → ((s : ℕ) → s < n → IsMarked marks s → IsMarked marks (f s) × IsMarked marks (g s)) → (path : List Bool) (s : ℕ) → s < n → IsMarked marks s → IsMarked marks (along f g path s)
closed_along f g n marks hf hg closed [] s l m = m
closed_along f g n marks hf hg closed (true ∷ path) s l m = closed_along f g n marks hf hg closed path (f s) (hf s l) (closed s l m).0
closed_along f g n marks hf hg closed (false ∷ path) s l m = closed_along f g n marks hf hg closed path (g s) (hg s l) (closed s l m).1

-- ---- marks
mark_cases : (marks : List Bool) (i s : ℕ) → IsMarked (set marks i true) s → (s ≡ i) ⊎ IsMarked marks s
mark_cases marks i s m =
    elim (cases_eq s i) [
      | inl e ↦ inl e
      | inr n ↦ let ne : s ≢ i = n in inr (rw get_or-set_other at m)
    ]

-- a mark that is made keeps the others
pub mark_kept : (marks : List Bool) (i s : ℕ) → i < length marks → IsMarked marks s → IsMarked (set marks i true) s
mark_kept marks i s l m =
    elim (cases_eq s i) [
      | inl e ↦ rw e (rw get_or-set_same refl)
      | inr n ↦ let ne : s ≢ i = n in rw get_or-set_other m
    ]

-- and is there
pub mark_made : (marks : List Bool) (i : ℕ) → i < length marks → IsMarked (set marks i true) i
mark_made marks i l = rw get_or-set_same refl

-- ---- the search
-- what is known of a number that was reached
pub record IsReached (f g : ℕ → ℕ) (n : ℕ) (before : List Bool) (start : ℕ) (marks : List Bool) (least : List ℕ) (s : ℕ) : Type 0 where
  pub in_range : s < n
  pub fresh : get_or before s false ≡ false
  pub led : LeadsTo f g start s
  pub labelled : entry least s ≡ start
  pub marked : IsMarked marks s

-- what the search keeps: the marks are those before it and those of the numbers reached, and the first `done` of
-- these have their steps marked
pub record Spreads (f g : ℕ → ℕ) (n : ℕ) (before : List Bool) (least_before : List ℕ) (start : ℕ) (marks : List Bool) (least : List ℕ) (reached : List ℕ) (done : ℕ) : Type 0 where
  pub as_many_marks : length marks ≡ n
  pub as_many : length least ≡ n
  pub within : done ≤ length reached
  pub each : (k : ℕ) → k < length reached → IsReached f g n before start marks least (get_or reached k 0)
  pub found : (s : ℕ) → IsMarked marks s → IsMarked before s ⊎ ((k : ℕ) × (k < length reached) × (get_or reached k 0 ≡ s))
  pub kept : (s : ℕ) → IsMarked before s → IsMarked marks s
  pub kept_least : (s : ℕ) → IsMarked before s → entry least s ≡ entry least_before s
  pub stepped : (k : ℕ) → k < done → IsMarked marks (f (get_or reached k 0)) × IsMarked marks (g (get_or reached k 0))

-- a number that is reached for the first time
spreads_new : (f g : ℕ → ℕ) (n : ℕ) (before : List Bool) (least_before : List ℕ) (start : ℕ) (marks : List Bool) (least : List ℕ) (reached : List ℕ) (done u : ℕ) → Spreads f g n before least_before start marks least reached done → u < n → LeadsTo f g start u → get_or marks u false ≡ false → Spreads f g n before least_before start (set marks u true) (set least u start) (reached ++ u ∷ []) done
spreads_new f g n before least_before start marks least reached done u w l led fresh =
    let lm : u < length marks = omega (arith, l, w.as_many_marks) in
    let ll : u < length least = omega (arith, l, w.as_many) in
    let more : length (reached ++ u ∷ []) ≡ length reached + 1 = length_push reached u in
    let old : (k : ℕ) → k < length reached → get_or (reached ++ u ∷ []) k 0 ≡ get_or reached k 0 = λ k h. get_or-append reached (u ∷ []) 0 k h in
    let last : get_or (reached ++ u ∷ []) (length reached) 0 ≡ u = get_or-append_seam reached u [] 0 in
    let before_not : (s : ℕ) → IsMarked before s → s ≢ u = λ s m e. false≢true (sym fresh ∙ ap (λ (t : ℕ). get_or marks t false) (sym e) ∙ w.kept s m) in
    let fresh_before : get_or before u false ≡ false = elim (cases_Bool (get_or before u false)) [ inl m ↦ absurd (before_not u m refl) | inr m ↦ m ] in
    let at_u : IsReached f g n before start (set marks u true) (set least u start) u =
    record { in_range = l; fresh = fresh_before; led = led; labelled = rw get_or-set_same refl; marked = mark_made marks u lm } in
    record {
      as_many_marks = length-set marks u true ∙ w.as_many_marks;
      as_many = length-set least u start ∙ w.as_many;
      within = omega (arith, w.within, more);
      each = λ k h.
          elim (cases_lt k (length reached)) [
            | inl b ↦
                let s : ℕ = get_or reached k 0 in
                let was = w.each k b in
                rw (old k b)
                (record {
                  in_range = was.in_range;
                  fresh = was.fresh;
                  led = was.led;
                  labelled = elim (cases_eq s u) [ inl e ↦ rw e (rw get_or-set_same refl) | inr d ↦ let ne : s ≢ u = d in rw get_or-set_other was.labelled ];
                  marked = mark_kept marks u s lm was.marked;
                })
            | inr b ↦ let e : k ≡ length reached = omega (arith, h, b, more) in rw (e, last) at_u
          ];
      found = λ s m.
          elim (mark_cases marks u s m) [
            | inl e ↦ inr (length reached, omega (arith, more), last ∙ sym e)
            | inr m' ↦
                elim (w.found s m') [
                  | inl b ↦ inl b
                  | inr o ↦ inr (o.0, omega (arith, o.1, more), old o.0 o.1 ∙ o.2)
                ]
          ];
      kept = λ s m. mark_kept marks u s lm (w.kept s m);
      kept_least = λ s m. let ne : s ≢ u = before_not s m in rw get_or-set_other (w.kept_least s m);
      stepped = λ k h.
          let was = w.stepped k h in
          rw (old k (omega (arith, h, w.within)))
          (mark_kept marks u (f (get_or reached k 0)) lm was.0, mark_kept marks u (g (get_or reached k 0)) lm was.1);
    }

-- a mark that stands there is written once more
set_marked : (marks : List Bool) (u : ℕ) → IsMarked marks u → set marks u true ≡ marks
set_marked marks u m = ap (set marks u) (sym m) ∙ set-get_or marks u false

-- a number that a step leads to is reached
pub spreads_reach : (f g : ℕ → ℕ) (n : ℕ) (before : List Bool) (least_before : List ℕ) (start : ℕ) (marks : List Bool) (least : List ℕ) (reached : List ℕ) (done u : ℕ) (marks' : List Bool) (least' reached' : List ℕ) → Spreads f g n before least_before start marks least reached done → u < n → LeadsTo f g start u → marks' ≡ set marks u true → least' ≡ (if get_or marks u false then least else set least u start) → reached' ≡ (if get_or marks u false then reached else reached ++ u ∷ []) → Spreads f g n before least_before start marks' least' reached' done
spreads_reach f g n before least_before start marks least reached done u marks' least' reached' w l led em el er =
    elim (cases_Bool (get_or marks u false)) [
      | inl m ↦
          let em' : marks' ≡ marks = em ∙ set_marked marks u m in
          let el' : least' ≡ least = rw m at el in
          let er' : reached' ≡ reached = rw m at er in
          rw (em', el', er') w
      | inr m ↦
          let el' : least' ≡ set least u start = rw m at el in
          let er' : reached' ≡ reached ++ u ∷ [] = rw m at er in
          rw (em, el', er') (spreads_new f g n before least_before start marks least reached done u w l led m)
    ]

-- how many are without a mark, and how many were reached, together stay the same
pub reach_total : (marks : List Bool) (reached : List ℕ) (u : ℕ) (marks' : List Bool) (reached' : List ℕ) → u < length marks → marks' ≡ set marks u true → reached' ≡ (if get_or marks u false then reached else reached ++ u ∷ []) → count_by not marks' + length reached' ≡ count_by not marks + length reached
reach_total marks reached u marks' reached' l em er =
    elim (cases_Bool (get_or marks u false)) [
      | inl m ↦
          let em' : marks' ≡ marks = em ∙ set_marked marks u m in
          let er' : reached' ≡ reached = rw m at er in
          rw (em', er') refl
      | inr m ↦
          let er' : reached' ≡ reached ++ u ∷ [] = rw m at er in
          let s = sum_by-set (λ b. cond (not b) 1 0) marks u true false l in
          rw (em, er', length_push reached u) (omega (arith, rw m at s))
    ]

-- the steps of one more are marked
pub spreads_step : (f g : ℕ → ℕ) (n : ℕ) (before : List Bool) (least_before : List ℕ) (start : ℕ) (marks : List Bool) (least : List ℕ) (reached : List ℕ) (done : ℕ) → Spreads f g n before least_before start marks least reached done → done < length reached → IsMarked marks (f (get_or reached done 0)) → IsMarked marks (g (get_or reached done 0)) → Spreads f g n before least_before start marks least reached (done + 1)
spreads_step f g n before least_before start marks least reached done w l mf mg = record {
  as_many_marks = w.as_many_marks;
  as_many = w.as_many;
  within = omega (arith, l);
  each = w.each;
  found = w.found;
  kept = w.kept;
  kept_least = w.kept_least;
  stepped = λ k h. elim (cases_lt k done) [ inl b ↦ w.stepped k b | inr b ↦ let e : k ≡ done = omega (arith, h, b) in rw e (mf, mg) ];
}

-- where all that was reached has its steps marked, the class is whole
pub spreads_end : (f g : ℕ → ℕ) (n : ℕ) (before : List Bool) (least_before : List ℕ) (start : ℕ) (marks : List Bool) (least : List ℕ) (reached : List ℕ) (done : ℕ) → StaysBelow n f → StaysBelow n g → AreClassesBelow f g n before least_before start → Spreads f g n before least_before start marks least reached done → IsMarked marks start → length reached ≤ done → AreClassesBelow f g n marks least (start + 1)
spreads_end f g n before least_before start marks least reached done hf hg b w begun all = record {
  as_many_marks = w.as_many_marks;
  as_many = w.as_many;
  closed = λ s l m.
      elim (w.found s m) [
        | inl old ↦ (w.kept (f s) (b.closed s l old).0, w.kept (g s) (b.closed s l old).1)
        | inr o ↦ let now = w.stepped o.0 (omega (arith, o.1, all)) in rw (← o.2) now
      ];
  below = λ s h. elim (cases_lt s start) [ inl l ↦ w.kept s (b.below s l) | inr l ↦ let e : s ≡ start = omega (arith, h, l) in rw e begun ];
  right = λ s l m.
      elim (w.found s m) [
        | inl old ↦ rw (w.kept_least s old) (b.right s l old)
        | inr o ↦
            let now = w.each o.0 o.1 in
            let P : ℕ → Type 0 = λ v. IsReached f g n before start marks least v in
            let here : IsReached f g n before start marks least s = subst P o.2 now in
            rw here.labelled
            (record {
              leads = here.led;
              least = λ t h (path, e).
                  elim (cases_lt t start) [
                    | inl lt ↦
                        let marked : IsMarked before s = subst (λ (v : ℕ). IsMarked before v) e (closed_along f g n before hf hg b.closed path t h (b.below t lt)) in
                        absurd (false≢true (sym here.fresh ∙ marked))
                    | inr ge ↦ omega (arith, ge)
                  ];
            })
      ];
}

-- all marked
pub classes_end : (f g : ℕ → ℕ) (n : ℕ) (marks : List Bool) (least : List ℕ) (start : ℕ) → n ≤ start → AreClassesBelow f g n marks least start → AreLeast f g n least
classes_end f g n marks least start all b = record { as_many = b.as_many; right = λ s l. b.right s l (b.below s (omega (arith, l, all))) }

-- what was reached stays at its place
reach_prefix : (marks : List Bool) (reached : List ℕ) (u d : ℕ) (reached' : List ℕ) → reached' ≡ (if get_or marks u false then reached else reached ++ u ∷ []) → d < length reached → (d < length reached') × (get_or reached' d 0 ≡ get_or reached d 0)
reach_prefix marks reached u d reached' er l =
    elim (cases_Bool (get_or marks u false)) [
      | inl m ↦ let er' : reached' ≡ reached = rw m at er in rw er' (l, refl)
      | inr m ↦
          let er' : reached' ≡ reached ++ u ∷ [] = rw m at er in
          rw er' (omega (arith, l, length_push reached u), get_or-append reached (u ∷ []) 0 d l)
    ]

-- a round: both steps of the number at `done` are reached
pub spreads_round : (f g : ℕ → ℕ) (n : ℕ) (before : List Bool) (least_before : List ℕ) (start : ℕ) (marks : List Bool) (least reached : List ℕ) (done u : ℕ) (marks1 : List Bool) (least1 reached1 : List ℕ) (marks2 : List Bool) (least2 reached2 : List ℕ) → StaysBelow n f → StaysBelow n g → Spreads f g n before least_before start marks least reached done → IsMarked marks start → start < n → done < length reached → u ≡ get_or reached done 0 → marks1 ≡ set marks (f u) true → least1 ≡ (if get_or marks (f u) false then least else set least (f u) start) → reached1 ≡ (if get_or marks (f u) false then reached else reached ++ f u ∷ []) → marks2 ≡ set marks1 (g u) true → least2 ≡ (if get_or marks1 (g u) false then least1 else set least1 (g u) start) → reached2 ≡ (if get_or marks1 (g u) false then reached1 else reached1 ++ g u ∷ []) → Spreads f g n before least_before start marks2 least2 reached2 (done + 1) × IsMarked marks2 start
spreads_round f g n before least_before start marks least reached done u marks1 least1 reached1 marks2 least2 reached2 hf hg w begun ls l at m1 l1 r1 m2 l2 r2 =
    let was = w.each done l in
    let lu : u < n = omega (arith, at, was.in_range) in
    let P : ℕ → Type 0 = λ v. LeadsTo f g start v in
    let led : LeadsTo f g start u = subst P (sym at) was.led in
    let one = spreads_reach f g n before least_before start marks least reached done (f u) marks1 least1 reached1 w (hf u lu) (leads_by_first f g start u led) m1 l1 r1 in
    let two = spreads_reach f g n before least_before start marks1 least1 reached1 done (g u) marks2 least2 reached2 one (hg u lu) (leads_by_second f g start u led) m2 l2 r2 in
    let in1 = reach_prefix marks reached (f u) done reached1 r1 l in
    let in2 = reach_prefix marks1 reached1 (g u) done reached2 r2 in1.0 in
    let same : get_or reached2 done 0 ≡ u = in2.1 ∙ in1.1 ∙ sym at in
    let lf : f u < length marks = omega (arith, hf u lu, w.as_many_marks) in
    let lg : g u < length marks1 = omega (arith, hg u lu, one.as_many_marks) in
    let here1 : IsMarked marks1 (f u) = rw m1 (mark_made marks (f u) lf) in
    let first_is : IsMarked marks2 (f u) = rw m2 (mark_kept marks1 (g u) (f u) lg here1) in
    let second_is : IsMarked marks2 (g u) = rw m2 (mark_made marks1 (g u) lg) in
    let begun1 : IsMarked marks1 start = rw m1 (mark_kept marks (f u) start lf begun) in
    let begun2 : IsMarked marks2 start = rw m2 (mark_kept marks1 (g u) start lg begun1) in
    (spreads_step f g n before least_before start marks2 least2 reached2 done two in2.0 (rw same first_is) (rw same second_is), begun2)

-- each round of the search lessens how many have no mark and how many were reached and aren't done, together
pub round_smaller : (marks : List Bool) (reached : List ℕ) (done u v : ℕ) (marks1 : List Bool) (reached1 : List ℕ) (marks2 : List Bool) (reached2 : List ℕ) → done < length reached → u < length marks → v < length marks1 → marks1 ≡ set marks u true → reached1 ≡ (if get_or marks u false then reached else reached ++ u ∷ []) → marks2 ≡ set marks1 v true → reached2 ≡ (if get_or marks1 v false then reached1 else reached1 ++ v ∷ []) → count_by not marks2 + length reached2 - (done + 1) < count_by not marks + length reached - done
round_smaller marks reached done u v marks1 reached1 marks2 reached2 l lu lv m1 r1 m2 r2 =
    omega (arith, l, reach_total marks reached u marks1 reached1 lu m1 r1, reach_total marks1 reached1 v marks2 reached2 lv m2 r2)
