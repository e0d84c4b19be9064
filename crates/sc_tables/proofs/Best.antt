-- The cheapest walk with a step to a position, one walk after another.
use Rattle.std.proofs.Common.{◌≡◌, ℕ, ◌+◌, ◌<◌, ◌≤◌, List, length, Option, Some, None, IfSome, IfNone, is_some, false, ◌⊎◌, slice_get, arith, sym, ap, subst, ◌∙◌, inl, inr}
use Rattle.std.proofs.lemmas.Bool.{cases_lt}
use Rattle.std.proofs.lemmas.Option.{slice_get_within}
use Rattle.sc_weight.specs.Levels.{Levels, levels_sum}
use Rattle.sc_tables.specs.Squares.{Square, cell}
use Rattle.sc_tables.specs.Totals.{IsBelow, IsAtMost}
use Rattle.sc_tables.specs.declared.search.Node.{Node}
use Rattle.sc_tables.specs.declared.search.Candidate.{Candidate}
use Rattle.sc_tables.specs.declared.search.Stop.{Stop}
use Rattle.sc_tables.specs.declared.search.Stop.TheVariants.{Wide, Memory}
use Rattle.sc_tables.specs.inside.Searches.{IsCandidate, HasNoStep, IsBest, IsStop, Closes, AllReach}
use Rattle.sc_tables.specs.Searches.{Under, UnderEach}
use Rattle.sc_tables.proofs.Order.{at_most-trans}

-- an option holds one item
pub same_item : {A : Type 0} (x y : A) (o : Option A) → o ≡ Some x → o ≡ Some y → x ≡ y
same_item x y o e h = cc

under-trans : {W : Type 0} (levels : W → Levels) (r : Option (Candidate W)) (x y : Levels) → Under levels r x → IsAtMost x y → Under levels r y
under-trans levels None x y under lower = under
under-trans levels (Some b) x y under lower = at_most-trans (levels b.total) x y under lower

module _ {W : Type 0} (levels : W → Levels) (t : Square W) (nodes : List (Node W)) (fresh k end j : ℕ) where
  by_best : (best r : Option (Candidate W)) (total : Levels) → IfSome best (λ b. Under levels r (levels b.total)) → Under levels best total → Under levels r total
  by_best None r total lower under = absurd under
  by_best (Some b) r total lower under = under-trans levels r (levels b.total) total lower under

  at_last : (next r : Option (Candidate W)) → IfSome next (λ b. (b.node ≡ k) × IsCandidate levels t nodes j b) → IfNone next (HasNoStep t nodes k j) → IfSome next (λ b. Under levels r (levels b.total)) →
      (x : Node W) (w : W) → slice_get nodes k ≡ Some x → cell t j x.place ≡ Some w → Under levels r (levels_sum (levels x.total) (levels w))
  at_last None r found none lower x w here step = let empty : cell t j x.place ≡ None = none x here in absurd (cc)
  at_last (Some next) r (at, is) none lower x w here step =
      let node : is.here ≡ x = same_item is.here x (slice_get nodes next.node) is.here_is (subst (λ (m : ℕ). slice_get nodes m ≡ Some x) (sym at) here) in
      let price : is.price ≡ w = same_item is.price w (cell t j is.here.place) is.step (ap (λ (y : Node W). cell t j y.place) node ∙ step) in
      let total : levels next.total ≡ levels_sum (levels x.total) (levels w) = is.total ∙ ap (λ (y : Node W). levels_sum (levels y.total) (levels is.price)) node ∙ ap (λ (v : W). levels_sum (levels x.total) (levels v)) price in
      subst (Under levels r) total lower

  candidate_next : (best next r : Option (Candidate W)) → k < end → IfSome best (λ b. (b.node < end) × IsCandidate levels t nodes j b) → IfSome next (λ b. (b.node ≡ k) × IsCandidate levels t nodes j b) →
      (r ≡ next) ⊎ (r ≡ best) → IfSome r (λ b. (b.node < end) × IsCandidate levels t nodes j b)
  candidate_next best next r inside old new (inl e) = rw e (within next new)
    where
      within : (o : Option (Candidate W)) → IfSome o (λ b. (b.node ≡ k) × IsCandidate levels t nodes j b) → IfSome o (λ b. (b.node < end) × IsCandidate levels t nodes j b)
      within None h = tt
      within (Some b) h = (omega (arith, h.0), h.1)
  candidate_next best next r inside old new (inr e) = rw e old

  -- with the walk of the node k too: the lesser of what was found before and of its step to j, if it has one
  pub best_next : (best next r : Option (Candidate W)) → k < end → IsBest levels t nodes fresh k end j best → IfSome next (λ b. (b.node ≡ k) × IsCandidate levels t nodes j b) → IfNone next (HasNoStep t nodes k j) →
      (r ≡ next) ⊎ (r ≡ best) → IfSome next (λ b. Under levels r (levels b.total)) → IfSome best (λ b. Under levels r (levels b.total)) → IsBest levels t nodes fresh (k + 1) end j r
  best_next best next r inside is found none one below_next below_best =
      record {
        candidate = candidate_next best next r inside is.candidate found one;
        under_each = λ n x w from below here step. elim (cases_lt n k) [
          | inl before ↦ by_best best r _ below_best (is.under_each n x w from before here step)
          | inr last ↦ (let at : n ≡ k = omega arith in at_last next r found none below_next x w (subst (λ (m : ℕ). slice_get nodes m ≡ Some x) at here) step)
        ];
      }

-- what is at most the totals of some walks is so of those of fewer walks
pub under_each_below : {W : Type 0} (levels : W → Levels) (t : Square W) (nodes : List (Node W)) (fresh k end j : ℕ) (best : Option (Candidate W)) → end ≤ k → UnderEach levels t nodes fresh k j best → UnderEach levels t nodes fresh end j best
under_each_below levels t nodes fresh k end j best more under_each n x w from below here step = under_each n x w from (omega arith) here step

-- a stop at one of the first walks is a stop at one of more walks
pub stop_within : {W : Type 0} (levels : W → Levels) (t : Square W) (nodes : List (Node W)) (k end j : ℕ) (stop : Stop) → k ≤ end → IsStop levels t nodes k j stop → IsStop levels t nodes end j stop
stop_within levels t nodes k end j (Wide n to wide) more (at, is) =
    (at, record { node = omega (arith, is.node); here = is.here; here_is = is.here_is; price = is.price; step = is.step; evidence = is.evidence })
stop_within levels t nodes k end j Memory more is = tt

-- the same of an equal list and an equal candidate
module _ {W : Type 0} (levels : W → Levels) (t : Square W) (a b : List (Node W)) (fresh end j : ℕ) (x y : Option (Candidate W)) (lists : a ≡ b) (options : x ≡ y) where
  -- both facts go over to an equal list and an equal option
  pub under_each-along : UnderEach levels t a fresh end j x → UnderEach levels t b fresh end j y
  under_each-along under_each = subst (λ (o : Option (Candidate W)). UnderEach levels t b fresh end j o) options (subst (λ (ns : List (Node W)). UnderEach levels t ns fresh end j x) lists under_each)

  pub found-along : IfSome x (λ c. (c.node < end) × IsCandidate levels t a j c) → IfSome y (λ c. (c.node < end) × IsCandidate levels t b j c)
  found-along found =
      subst (λ (o : Option (Candidate W)). IfSome o (λ c. (c.node < end) × IsCandidate levels t b j c)) options
      (subst (λ (ns : List (Node W)). IfSome x (λ c. (c.node < end) × IsCandidate levels t ns j c)) lists found)

-- ---- back to the start
-- where an option holds nothing, what is said for that case holds
pub at_none : {A : Type 0} (o : Option A) (P : Type 0) → false ≡ is_some o → IfNone o P → P
at_none None P e h = h
at_none (Some a) P e h = absurd (cc)

module _ {W : Type 0} (levels : W → Levels) (t : Square W) (nodes : List (Node W)) (threshold : Levels) (fresh s : ℕ) where
  -- a walk with a step back to s whose total is below the threshold
  pub closes_from : (b : Candidate W) → IsCandidate levels t nodes s b → IsBelow (levels b.total) threshold → Closes levels t nodes threshold s b.node
  closes_from b is below =
      record { here = is.here; here_is = is.here_is; price = is.price; step = is.step; below = subst (λ (l : Levels). IsBelow l threshold) is.total below }

  -- where the least total with a step back to s is at least the threshold, so is every one
  pub reach_from : (found : Option (Candidate W)) (b : Candidate W) → found ≡ Some b → UnderEach levels t nodes fresh (length nodes) s found → IsAtMost threshold (levels b.total) → AllReach levels t nodes threshold fresh s
  reach_from found b e under_each high n x w from here step =
      let low : IsAtMost (levels b.total) (levels_sum (levels x.total) (levels w)) =
      subst (λ (o : Option (Candidate W)). Under levels o (levels_sum (levels x.total) (levels w))) e (under_each n x w from (slice_get_within nodes n x here) here step) in
      at_most-trans threshold (levels b.total) _ high low

  -- where no walk has a step back to s, none comes back below the threshold
  pub reach_none : (found : Option (Candidate W)) → found ≡ None → UnderEach levels t nodes fresh (length nodes) s found → AllReach levels t nodes threshold fresh s
  reach_none found e under_each n x w from here step =
      absurd (subst (λ (o : Option (Candidate W)). Under levels o (levels_sum (levels x.total) (levels w))) e (under_each n x w from (slice_get_within nodes n x here) here step))
