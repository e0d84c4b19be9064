-- What a search from a start knows between its rounds, and at its end.
use Rattle.std.specs.Prelude.{◌≡◌, ◌≢◌, ℕ, ◌<◌, ◌≤◌, List, [], ◌∷◌, length, get_or, slice_get, Option, Some, None}
use Rattle.sc_theory.specs.Chains.{Chain, positions}
use Rattle.sc_theory.specs.Walks.{IsStep}
use Rattle.sc_weight.specs.Levels.{Levels, zero_levels, levels_sum}
use Rattle.sc_tables.specs.Squares.{Square, cell}
use Rattle.sc_tables.specs.Walks.{LeadsTo}
use Rattle.sc_tables.specs.Totals.{open_total, IsAtMost}
use Rattle.sc_tables.specs.StepPrices.{price_in}
use Rattle.sc_tables.specs.declared.search.Node.{Node}
use Rattle.sc_tables.specs.declared.search.Stop.{Stop}
use Rattle.sc_tables.specs.inside.Searches.{AreWalks, IsStop, AreEnds}
use Rattle.sc_tables.specs.Searches.{Lower}

-- the first n entries of a table that has the walk number 0 at s, and none elsewhere
pub record IsFirstTable (s n : ℕ) (table : List (Option ℕ)) : Type 0 where
  pub len : length table ≡ n
  pub start : s < n → get_or table s None ≡ Some 0
  pub others : (j : ℕ) → j ≢ s → get_or table j None ≡ None

-- the table of a search that begins: the walk without steps alone
pub record IsBegun {W : Type 0} (levels : W → Levels) (side s : ℕ) (nodes : List (Node W)) (table : List (Option ℕ)) : Type 0 where
  pub node : (x : Node W) × (nodes ≡ x ∷ []) × (x.place ≡ s) × (x.steps ≡ 0) × (levels x.total ≡ zero_levels)
  pub len : length table ≡ side
  pub start : get_or table s None ≡ Some 0
  pub others : (j : ℕ) → j ≢ s → get_or table j None ≡ None

-- the walks of at most n steps that don't come back to s have at least the totals of the table
abbrev pub UnderEachWalk : {W : Type 0} → (W → Levels) → Chain → Square W → ℕ → List (Node W) → List (Option ℕ) → ℕ → Type 0
UnderEachWalk levels c t s nodes table n = (j : ℕ) (js : List ℕ) → LeadsTo c s j js → length js ≤ n → Lower levels nodes (get_or table j None) (open_total (price_in levels t) s js)

-- those of fewer than n steps cost at least the threshold with a step back to s
abbrev pub ReachBack : {W : Type 0} → (W → Levels) → Chain → Square W → Levels → ℕ → ℕ → Type 0
ReachBack levels c t threshold s n = (i : ℕ) (js : List ℕ) → LeadsTo c s i js → length js < n → IsStep c i s →
    IsAtMost threshold (levels_sum (open_total (price_in levels t) s js) (price_in levels t i s))

-- after r rounds; the walks before the number fresh have been extended by each step
pub record IsState {W : Type 0} (levels : W → Levels) (c : Chain) (t : Square W) (threshold : Levels) (s r fresh : ℕ) (nodes : List (Node W)) (table : List (Option ℕ)) : Type 0 where
  pub walks : AreWalks levels t s r nodes
  pub len : length table ≡ t.side
  pub ends : AreEnds nodes table
  pub start : get_or table s None ≡ Some 0
  pub stale : (i n j : ℕ) (x : Node W) (w : W) → get_or table i None ≡ Some n → n < fresh → slice_get nodes n ≡ Some x → j < t.side → j ≢ s → cell t j i ≡ Some w →
      Lower levels nodes (get_or table j None) (levels_sum (levels x.total) (levels w))
  pub stale_back : (i n : ℕ) (x : Node W) (w : W) → get_or table i None ≡ Some n → n < fresh → slice_get nodes n ≡ Some x → cell t s i ≡ Some w →
      IsAtMost threshold (levels_sum (levels x.total) (levels w))
  pub under_each : UnderEachWalk levels c t s nodes table r
  pub back : ReachBack levels c t threshold s r

-- at the end
pub record IsDone {W : Type 0} (levels : W → Levels) (c : Chain) (t : Square W) (threshold : Levels) (s : ℕ) (nodes : List (Node W)) (table : List (Option ℕ)) : Type 0 where
  pub len : length table ≡ t.side
  pub ends : AreEnds nodes table
  pub under_each : (j : ℕ) (js : List ℕ) → LeadsTo c s j js → length js < positions c → Lower levels nodes (get_or table j None) (open_total (price_in levels t) s js)
  pub back : ReachBack levels c t threshold s (positions c)

-- a stop at one of the walks of fewer than n steps
pub record StopsWithin {W : Type 0} (levels : W → Levels) (t : Square W) (nodes : List (Node W)) (most : ℕ) (stop : Stop) : Type 0 where
  pub end : ℕ
  pub to : ℕ
  pub inside : to < t.side
  pub before : (n : ℕ) (x : Node W) → n < end → slice_get nodes n ≡ Some x → x.steps < most
  pub stop_is : IsStop levels t nodes end to stop
