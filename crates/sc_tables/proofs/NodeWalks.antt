-- The walks that the nodes of a search stand for.
use Rattle.std.proofs.Common.{◌≡◌, ◌≢◌, ◌⊎◌, ℕ, zero, suc, ◌<◌, ◌≤◌, List, [], ◌∷◌, ◌++◌, length, slice_get, Some, arith, refl, sym, ap, subst, ◌∙◌, inl, inr, length-append}
use Rattle.std.specs.List.{AllByRecursion}
use Rattle.sc_theory.specs.Chains.{Chain}
use Rattle.sc_theory.specs.Walks.{IsStep}
use Rattle.sc_weight.specs.Levels.{Levels, levels_sum}
use Rattle.sc_tables.specs.Squares.{Square, cell, level_of}
use Rattle.sc_tables.specs.Walks.{WalksAlong, end_of, LeadsTo}
use Rattle.sc_tables.specs.Totals.{open_total}
use Rattle.sc_tables.specs.StepPrices.{AreForChain, price_in}
use Rattle.sc_tables.specs.declared.search.Node.{Node}
use Rattle.sc_tables.specs.inside.Searches.{AreWalks, Extends}
use Rattle.sc_tables.proofs.WalkLaws.{walks_front, walks_rest, end_of-append}
use Rattle.sc_tables.proofs.Repeats.{all_front, all_rest}
use Rattle.sc_tables.proofs.LeastTotals.{leads-step, open_total-step, stays}

-- ---- the last step of a walk
unsnoc : (x : ℕ) (xs : List ℕ) → (front : List ℕ) × (z : ℕ) × (x ∷ xs ≡ front ++ z ∷ [])
unsnoc x [] = ([], x, refl)
unsnoc x (y ∷ xs) = let (front, z, is) = unsnoc y xs in (x ∷ front, z, ap (λ (ys : List ℕ). x ∷ ys) is)

-- a walk from s to j as a walk from s and a last step, which leads to j
pub record LastStep (c : Chain) (s j : ℕ) (js : List ℕ) : Type 0 where
  pub front : List ℕ
  pub from : ℕ
  pub is : js ≡ front ++ j ∷ []
  pub leads : LeadsTo c s from front
  pub step : IsStep c from j
  pub away : s ≢ j

-- a walk has no steps or a last one
pub last_step_of : (c : Chain) (s j : ℕ) (js : List ℕ) → LeadsTo c s j js → (js ≡ []) ⊎ LastStep c s j js
last_step_of c s j [] leads = inl refl
last_step_of c s j (k ∷ ks) leads =
    let (front, z, is) = unsnoc k ks in
    let walks : WalksAlong c s (front ++ z ∷ []) = subst (WalksAlong c s) is leads.walks in
    let away : AllByRecursion (λ i. s ≢ i) (front ++ z ∷ []) = subst (AllByRecursion (λ i. s ≢ i)) is leads.away in
    let at : z ≡ j = sym (end_of-append s front (z ∷ [])) ∙ ap (end_of s) (sym is) ∙ leads.ends in
    let rest = walks_rest c s front (z ∷ []) walks in
    let last = all_rest (λ i. s ≢ i) front (z ∷ []) away in
    inr (subst (λ (m : ℕ). LastStep c s m (k ∷ ks)) at
    (record {
      front = front;
      from = end_of s front;
      is = is;
      leads = record { walks = walks_front c s front (z ∷ []) walks; away = all_front (λ i. s ≢ i) front (z ∷ []) away; ends = refl };
      step = rest.0;
      away = last.0;
    }))

-- ---- the walk of a node
-- a walk from s to the node's place with its total, of at most as many steps as it tells
pub record IsWalkTo {W : Type 0} (levels : W → Levels) (c : Chain) (t : Square W) (s : ℕ) (x : Node W) : Type 0 where
  pub walk : List ℕ
  pub leads : LeadsTo c s x.place walk
  pub total : open_total (price_in levels t) s walk ≡ levels x.total
  pub few : length walk ≤ x.steps

-- an entry of the square is the price of its step
pub price_at : {W : Type 0} (levels : W → Levels) (t : Square W) (i j : ℕ) (w : W) → cell t j i ≡ Some w → price_in levels t i j ≡ levels w
price_at levels t i j w e = ap (level_of levels) e

module _ {W : Type 0} (levels : W → Levels) (c : Chain) (t : Square W) (s : ℕ) (fits : AreForChain c t) where
  -- where the node x extends m, there is a walk to x if there is one to m
  pub extended : (m x : Node W) → m.place < t.side → x.place < t.side → Extends levels t s m x → IsWalkTo levels c t s m → IsWalkTo levels c t s x
  extended m x from to is w =
      let step : IsStep c m.place x.place = fits.only m.place x.place is.price (omega (arith, fits.side)) (omega (arith, fits.side)) is.step in
      record {
        walk = w.walk ++ x.place ∷ [];
        leads = leads-step c s m.place x.place w.walk w.leads step is.away;
        total =
            open_total-step (price_in levels t) s w.walk m.place x.place w.leads.ends
            ∙ ap (λ (a : Levels). levels_sum a (price_in levels t m.place x.place)) w.total
            ∙ ap (λ (a : Levels). levels_sum (levels m.total) a) (price_at levels t m.place x.place is.price is.step)
            ∙ sym is.total;
        few = omega (arith, length-append w.walk (x.place ∷ []), w.few, is.steps);
      }

  walk_below : (most : ℕ) (nodes : List (Node W)) → AreWalks levels t s most nodes → (k n : ℕ) (x : Node W) → n < k → slice_get nodes n ≡ Some x → IsWalkTo levels c t s x
  walk_below most nodes are zero n x below here = absurd (omega arith)
  walk_below most nodes are (suc k) zero x below here =
      let (at, none) = are.first x here in
      record { walk = []; leads = subst (λ (j : ℕ). LeadsTo c s j []) (sym at) (stays c s); total = sym none; few = omega arith }
  walk_below most nodes are (suc k) (suc n) x below here =
      let (m, earlier, at, is) = are.later n x here in
      extended m x (are.placed x.before m at) (are.placed (suc n) x here) is (walk_below most nodes are k x.before m (omega arith) at)

  -- each node of a search has a walk
  pub walk_of : (most : ℕ) (nodes : List (Node W)) → AreWalks levels t s most nodes → (n : ℕ) (x : Node W) → slice_get nodes n ≡ Some x → IsWalkTo levels c t s x
  walk_of most nodes are n x here = walk_below most nodes are (suc n) n x (omega arith) here
