-- One round of a search, and its end.
use Rattle.std.proofs.Common.{◌≡◌, ◌≢◌, ◌⊎◌, ℕ, zero, suc, ◌+◌, ◌<◌, ◌≤◌, List, [], ◌∷◌, length, get_or, slice_get, Option, Some, None, arith, refl, sym, ap, subst, ◌∙◌, inl, inr, length-append}
use Rattle.std.proofs.lemmas.Bool.{cases_lt, cases_eq}
use Rattle.sc_theory.specs.Chains.{Chain}
use Rattle.sc_theory.specs.Walks.{IsStep}
use Rattle.sc_weight.specs.Levels.{Levels, zero_levels, levels_sum}
use Rattle.sc_tables.specs.Squares.{Square, cell}
use Rattle.sc_tables.specs.Walks.{LeadsTo}
use Rattle.sc_tables.specs.Totals.{open_total, IsAtMost}
use Rattle.sc_tables.specs.StepPrices.{AreForChain, price_in}
use Rattle.sc_tables.specs.declared.search.Node.{Node}
use Rattle.sc_tables.specs.inside.Searches.{AreWalks, AllReach, IsGrowing, Grows, AreEnds}
use Rattle.sc_tables.specs.Searches.{IsEnd, Lower, IsNext}
use Rattle.sc_tables.specs.inside.States.{IsBegun, UnderEachWalk, ReachBack, IsState, IsDone}
use Rattle.sc_tables.proofs.Order.{at_most-refl, at_most-trans, at_most-sum}
use Rattle.sc_tables.proofs.LeastTotals.{open_total-step}
use Rattle.sc_tables.proofs.Best.{same_item}
use Rattle.sc_tables.proofs.Growing.{lower-trans, item_before}
use Rattle.sc_tables.proofs.NextTables.{end_below}
use Rattle.sc_tables.proofs.NodeWalks.{last_step_of, price_at}

-- ---- entries
-- a table has entries only within its length
pub entry_inside : (table : List (Option ℕ)) (i n : ℕ) → get_or table i None ≡ Some n → i < length table
entry_inside [] i n e = absurd (cc)
entry_inside (o ∷ table) zero n e = omega arith
entry_inside (o ∷ table) (suc i) n e = omega (arith, entry_inside table i n e)

-- the walk that the entry of j names ends at j
pub end_place : {W : Type 0} (nodes : List (Node W)) (end j : ℕ) (o : Option ℕ) (n : ℕ) (x : Node W) → IsEnd nodes end j o → o ≡ Some n → slice_get nodes n ≡ Some x → x.place ≡ j
end_place nodes end j None n x is e here = absurd (cc)
end_place nodes end j (Some m) n x (y, inside, there, at) e here =
    let same : m ≡ n = same_item m n (Some m) refl e in
    let node : y ≡ x = same_item y x (slice_get nodes n) (subst (λ (k : ℕ). slice_get nodes k ≡ Some y) same there) here in
    subst (λ (z : Node _). z.place ≡ j) node at

-- the walk that an entry names, with at most this total
pub record LowerAt {W : Type 0} (levels : W → Levels) (nodes : List (Node W)) (o : Option ℕ) (total : Levels) : Type 0 where
  pub number : ℕ
  pub is : o ≡ Some number
  pub node : Node W
  pub here : slice_get nodes number ≡ Some node
  pub low : IsAtMost (levels node.total) total

-- an entry with at most this total names a walk
pub lower_at : {W : Type 0} (levels : W → Levels) (nodes : List (Node W)) (o : Option ℕ) (total : Levels) → Lower levels nodes o total → LowerAt levels nodes o total
lower_at levels nodes None total is = absurd is
lower_at levels nodes (Some n) total (x, here, low) = record { number = n; is = refl; node = x; here = here; low = low }

-- ---- walks that are longer by a step
module _ {W : Type 0} (levels : W → Levels) (c : Chain) (t : Square W) (s : ℕ) (fits : AreForChain c t) (inside : s < t.side) (a b : List (Node W)) (table next : List (Option ℕ)) where
  -- where the new table has at most each total of the old one with a step more, it is under each walk of one step more
  pub under_more : Lower levels b (get_or next s None) zero_levels →
      ((i n j : ℕ) (x : Node W) (w : W) → get_or table i None ≡ Some n → slice_get a n ≡ Some x → j < t.side → j ≢ s → cell t j i ≡ Some w → Lower levels b (get_or next j None) (levels_sum (levels x.total) (levels w))) →
      (k : ℕ) → UnderEachWalk levels c t s a table k → UnderEachWalk levels c t s b next (suc k)
  under_more start step k under_each j js leads short = elim (last_step_of c s j js leads) [
    | inl none ↦
        (let empty : LeadsTo c s j [] = subst (LeadsTo c s j) none leads in
        let at : s ≡ j = empty.ends in
        subst (λ (ks : List ℕ). Lower levels b (get_or next j None) (open_total (price_in levels t) s ks)) (sym none) (subst (λ (m : ℕ). Lower levels b (get_or next m None) zero_levels) at start))
    | inr last ↦
        (let size : length js ≡ suc (length last.front) = ap length last.is ∙ length-append last.front (j ∷ []) ∙ omega arith in
        let low = lower_at levels a (get_or table last.from None) _ (under_each last.from last.front last.leads (omega arith)) in
        let (w, at) = fits.step last.from j last.step in
        let more = step last.from low.number j low.node w low.is low.here (omega (arith, last.step.to, fits.side)) (λ e. last.away (sym e)) at in
        let total : levels_sum (open_total (price_in levels t) s last.front) (levels w) ≡ open_total (price_in levels t) s js =
        ap (λ (l : Levels). levels_sum (open_total (price_in levels t) s last.front) l) (sym (price_at levels t last.from j w at))
        ∙ sym (open_total-step (price_in levels t) s last.front last.from j last.leads.ends) ∙ ap (open_total (price_in levels t) s) (sym last.is) in
        lower-trans levels b (get_or next j None) _ (open_total (price_in levels t) s js) more
        (subst (IsAtMost (levels_sum (levels low.node.total) (levels w))) total (at_most-sum _ _ (levels w) (levels w) low.low (at_most-refl (levels w)))))
  ]

-- ---- one round
module _ {W : Type 0} (levels : W → Levels) (c : Chain) (t : Square W) (threshold : Levels) (s r fresh : ℕ) (nodes : List (Node W)) (table : List (Option ℕ)) (fits : AreForChain c t) (inside : s < t.side) (state : IsState levels c t threshold s r fresh nodes table) (reach : AllReach levels t nodes threshold fresh s) where
  back_all : (i n : ℕ) (x : Node W) (w : W) → get_or table i None ≡ Some n → slice_get nodes n ≡ Some x → cell t s i ≡ Some w → IsAtMost threshold (levels_sum (levels x.total) (levels w))
  back_all i n x w e here step = elim (cases_lt n fresh) [
    | inl old ↦ state.stale_back i n x w e old here step
    | inr new ↦
        (let at : x.place ≡ i = end_place nodes (length nodes) i (get_or table i None) n x (state.ends i (entry_inside table i n e)) e here in
        reach n x w new here (subst (λ (k : ℕ). cell t s k ≡ Some w) (sym at) step))
  ]

  -- a step back to s costs at least the threshold in all, where the entry costs no more than the walk to it
  pub back_of : (i : ℕ) (js : List ℕ) → Lower levels nodes (get_or table i None) (open_total (price_in levels t) s js) → IsStep c i s → IsAtMost threshold (levels_sum (open_total (price_in levels t) s js) (price_in levels t i s))
  back_of i js lower step =
      let low = lower_at levels nodes (get_or table i None) _ lower in
      let (w, at) = fits.step i s step in
      let high : IsAtMost threshold (levels_sum (levels low.node.total) (levels w)) = back_all i low.number low.node w low.is low.here at in
      subst (λ (l : Levels). IsAtMost threshold (levels_sum (open_total (price_in levels t) s js) l)) (sym (price_at levels t i s w at))
      (at_most-trans threshold _ (levels_sum (open_total (price_in levels t) s js) (levels w)) high (at_most-sum _ _ (levels w) (levels w) low.low (at_most-refl (levels w))))

  -- walks of one step more don't come back to s below the threshold either
  pub back_next : ReachBack levels c t threshold s (suc r)
  back_next i js leads short step = back_of i js (state.under_each i js leads (omega arith)) step

  module _ (new : List (Node W)) (next : List (Option ℕ)) (growing : IsGrowing levels t s (r + 1) (length nodes) new) (grows : Grows nodes new) (len : length next ≡ t.side)
      (entries : (j : ℕ) → j < t.side → IsNext levels t new fresh (length nodes) s j (get_or table j None) (get_or next j None)) where
    step_all : (i n j : ℕ) (x : Node W) (w : W) → get_or table i None ≡ Some n → slice_get nodes n ≡ Some x → j < t.side → j ≢ s → cell t j i ≡ Some w → Lower levels new (get_or next j None) (levels_sum (levels x.total) (levels w))
    step_all i n j x w e here within other step = elim (cases_lt n fresh) [
      | inl old ↦
          (let low = lower_at levels nodes (get_or table j None) _ (state.stale i n j x w e old here within other step) in
          lower-trans levels new (get_or next j None) (levels low.node.total) _ ((entries j within).kept low.number low.node low.is (grows.same low.number low.node low.here)) low.low)
      | inr new_one ↦
          (let is = state.ends i (entry_inside table i n e) in
          let at : x.place ≡ i = end_place nodes (length nodes) i (get_or table i None) n x is e here in
          let below : n < length nodes = end_below nodes (length nodes) i (get_or table i None) n is e in
          (entries j within).under_each other n x w new_one below (grows.same n x here) (subst (λ (k : ℕ). cell t j k ≡ Some w) (sym at) step))
    ]

    next_start : get_or next s None ≡ Some 0
    next_start = (entries s inside).start refl ∙ state.start

    -- an entry from before the round is the entry that stood there
    same_entry : (i n : ℕ) → get_or next i None ≡ Some n → n < length nodes → get_or table i None ≡ Some n
    same_entry i n e old = (entries i (omega (arith, entry_inside next i n e, len))).old n e old

    start_low : Lower levels new (get_or next s None) zero_levels
    start_low = rw next_start (first (growing.walks.some))
      where
        first : 0 < length new → (x : Node W) × (slice_get new 0 ≡ Some x) × IsAtMost (levels x.total) zero_levels
        first some = at_first new some growing.walks.first
          where
            at_first : (xs : List (Node W)) → 0 < length xs → ((x : Node W) → slice_get xs 0 ≡ Some x → (x.place ≡ s) × (levels x.total ≡ zero_levels)) → (x : Node W) × (slice_get xs 0 ≡ Some x) × IsAtMost (levels x.total) zero_levels
            at_first [] some is = absurd (omega arith)
            at_first (x ∷ xs) some is = (x, refl, subst (λ (l : Levels). IsAtMost l zero_levels) (sym (is x refl).1) (at_most-refl zero_levels))

    ends_next : AreEnds new next
    ends_next j within = (entries j (omega (arith, len))).placed

    -- one round leads to the state after one round more
    pub next_state : IsState levels c t threshold s (r + 1) (length nodes) new next
    next_state =
        record {
          walks = growing.walks;
          len = len;
          ends = ends_next;
          start = next_start;
          stale = λ i n j x w e old here within other step.
              step_all i n j x w (same_entry i n e old) (item_before nodes new n x grows old here) within other step;
          stale_back = λ i n x w e old here step. back_all i n x w (same_entry i n e old) (item_before nodes new n x grows old here) step;
          under_each = λ j js leads short. under_more levels c t s fits inside nodes new table next start_low step_all r state.under_each j js leads (omega arith);
          back = λ i js leads short step. back_next i js leads (omega arith) step;
        }

    -- no walk was added
    module _ (still : length new ≡ length nodes) where
      all_old : (i n : ℕ) → get_or next i None ≡ Some n → n < length nodes
      all_old i n e = omega (arith, still, end_below new (length new) i (get_or next i None) n (ends_next i (entry_inside next i n e)) e)

      under_all : (k : ℕ) → UnderEachWalk levels c t s new next k
      under_all zero j js leads short = next_state.under_each j js leads (omega arith)
      under_all (suc k) j js leads short =
          under_more levels c t s fits inside new new next next start_low
          (λ i n j x w e here within other step. step_all i n j x w (same_entry i n e (all_old i n e)) (item_before nodes new n x grows (all_old i n e) here) within other step)
          k (under_all k) j js leads short

      -- after a round that adds no walk the search has ended, since no round can add one
      pub still_done : IsDone levels c t threshold s new next
      still_done =
          record {
            len = len;
            ends = ends_next;
            under_each = λ j js leads short. under_all (length js) j js leads (omega arith);
            back = λ i js leads short step.
                (let low = lower_at levels new (get_or next i None) _ (under_all (length js) i js leads (omega arith)) in
                let e = same_entry i low.number low.is (all_old i low.number low.is) in
                back_of i js (rw e (low.node, item_before nodes new low.number low.node grows (all_old i low.number low.is) low.here, low.low)) step);
          }

-- ---- the first state, and the end after all rounds
module _ {W : Type 0} (levels : W → Levels) (c : Chain) (t : Square W) (threshold : Levels) (s : ℕ) (nodes : List (Node W)) (table : List (Option ℕ)) where
  -- the table that names the walk without steps alone is the state after no rounds
  pub first_state : s < t.side → IsBegun levels t.side s nodes table → IsState levels c t threshold s 0 0 nodes table
  first_state inside begun = at_node begun.node
    where
      at_node : (x : Node W) × (nodes ≡ x ∷ []) × (x.place ≡ s) × (x.steps ≡ 0) × (levels x.total ≡ zero_levels) → IsState levels c t threshold s 0 0 nodes table
      at_node (x, is, at, none, total) =
          record {
            walks = subst (AreWalks levels t s 0) (sym is) walks;
            len = begun.len;
            ends = λ j within. subst (λ (ns : List (Node W)). IsEnd ns (length ns) j (get_or table j None)) (sym is) (end j (cases_eq j s));
            start = begun.start;
            stale = λ i n j y w e old. absurd (omega arith);
            stale_back = λ i n y w e old. absurd (omega arith);
            under_each = λ j js leads short. under_each j js leads (short_is_none js (omega arith));
            back = λ i js leads short. absurd (omega arith);
          }
        where
          walks : AreWalks levels t s 0 (x ∷ [])
          walks = record {
            some = omega arith;
            first = λ y here. subst (λ (z : Node W). (z.place ≡ s) × (levels z.total ≡ zero_levels)) (same_item x y (Some x) refl here) (at, total);
            later = λ n y here. absurd (cc);
            placed = placed;
            few = few;
          }
            where
              placed : (n : ℕ) (y : Node W) → slice_get (x ∷ []) n ≡ Some y → y.place < t.side
              placed zero y here = subst (λ (z : Node W). z.place < t.side) (same_item x y (Some x) refl here) (omega (arith, inside))
              placed (suc n) y here = absurd (cc)

              few : (n : ℕ) (y : Node W) → slice_get (x ∷ []) n ≡ Some y → y.steps ≤ 0
              few zero y here = subst (λ (z : Node W). z.steps ≤ 0) (same_item x y (Some x) refl here) (omega arith)
              few (suc n) y here = absurd (cc)

          end : (j : ℕ) → (j ≡ s) ⊎ (j ≢ s) → IsEnd (x ∷ []) 1 j (get_or table j None)
          end j (inl same) = rw (ap (λ (k : ℕ). get_or table k None) same ∙ begun.start) (x, omega arith, refl, at ∙ sym same)
          end j (inr other) = rw (begun.others j other) tt

          short_is_none : (js : List ℕ) → length js ≤ 0 → js ≡ []
          short_is_none [] short = refl
          short_is_none (k ∷ ks) short = absurd (omega arith)

          under_each : (j : ℕ) (js : List ℕ) → LeadsTo c s j js → js ≡ [] → Lower levels nodes (get_or table j None) (open_total (price_in levels t) s js)
          under_each j js leads empty =
              let here : LeadsTo c s j [] = subst (LeadsTo c s j) empty leads in
              let entry : get_or table j None ≡ Some 0 = ap (λ (k : ℕ). get_or table k None) (sym here.ends) ∙ begun.start in
              rw (entry, is) (x, refl, subst (λ (ks : List ℕ). IsAtMost (levels x.total) (open_total (price_in levels t) s ks)) (sym empty) (subst (λ (l : Levels). IsAtMost l zero_levels) (sym total) (at_most-refl zero_levels)))
