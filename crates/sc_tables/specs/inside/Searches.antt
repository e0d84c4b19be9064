-- Said by private functions alone: the walks that a search for cheap walks keeps.
use Rattle.std.specs.Prelude.{◌≡◌, ◌≢◌, ℕ, suc, ◌<◌, ◌≤◌, List, length, get_or, slice_get, Option, Some, None, IfSome}
use Rattle.sc_weight.specs.Levels.{Levels, zero_levels, levels_sum}
use Rattle.sc_weight.specs.Evidence.{IsFirstWideLevel}
use Rattle.sc_weight.specs.declared.level.WideLevel.{WideLevel}
use Rattle.sc_whole.specs.declared.checked.Op.TheVariants.{Add}
use Rattle.sc_tables.specs.Squares.{Square, cell}
use Rattle.sc_tables.specs.Totals.{IsBelow, IsAtMost}
use Rattle.sc_tables.specs.declared.search.Node.{Node}
use Rattle.sc_tables.specs.declared.search.Candidate.{Candidate}
use Rattle.sc_tables.specs.declared.search.Stop.{Stop}
use Rattle.sc_tables.specs.declared.search.Stop.TheVariants.{Wide, Memory}
use Rattle.sc_tables.specs.Searches.{UnderEach, IsEnd}

-- each walk ends at a position
abbrev pub ArePlaced : {W : Type 0} → Square W → List (Node W) → Type 0
ArePlaced {W} t nodes = (n : ℕ) (x : Node W) → slice_get nodes n ≡ Some x → x.place < t.side

-- b is a walk with a step to the position j
pub record IsCandidate {W : Type 0} (levels : W → Levels) (t : Square W) (nodes : List (Node W)) (j : ℕ) (b : Candidate W) : Type 0 where
  pub here : Node W
  pub here_is : slice_get nodes b.node ≡ Some here
  pub price : W
  pub step : cell t j here.place ≡ Some price
  pub total : levels b.total ≡ levels_sum (levels here.total) (levels price)

-- no step leads from the end of the walk of the node n to the position j
abbrev pub HasNoStep : {W : Type 0} → Square W → List (Node W) → ℕ → ℕ → Type 0
HasNoStep {W} t nodes n j = (x : Node W) → slice_get nodes n ≡ Some x → cell t j x.place ≡ None

-- the total of the walk of the node n, one of the first ones, with a step to the position j is too wide
pub record IsWideAt {W : Type 0} (levels : W → Levels) (t : Square W) (nodes : List (Node W)) (end j n : ℕ) (wide : WideLevel) : Type 0 where
  pub node : n < end
  pub here : Node W
  pub here_is : slice_get nodes n ≡ Some here
  pub price : W
  pub step : cell t j here.place ≡ Some price
  pub evidence : IsFirstWideLevel Add (levels_sum (levels here.total) (levels price)) (levels here.total) (levels price) wide

abbrev pub IsStop : {W : Type 0} → (W → Levels) → Square W → List (Node W) → ℕ → ℕ → Stop → Type 0
IsStop levels t nodes end j (Wide n to wide) = (to ≡ j) × IsWideAt levels t nodes end j n wide
IsStop levels t nodes end j Memory = Unit {0}

-- what was found among the walks from the number fresh to below n: a walk with a step to j, and none of the others has
-- less
pub record IsBest {W : Type 0} (levels : W → Levels) (t : Square W) (nodes : List (Node W)) (fresh n end j : ℕ) (found : Option (Candidate W)) : Type 0 where
  pub candidate : IfSome found (λ b. (b.node < end) × IsCandidate levels t nodes j b)
  pub under_each : UnderEach levels t nodes fresh n j found

-- a step takes the walk of the node n back to the start for less than the threshold
pub record Closes {W : Type 0} (levels : W → Levels) (t : Square W) (nodes : List (Node W)) (threshold : Levels) (s n : ℕ) : Type 0 where
  pub here : Node W
  pub here_is : slice_get nodes n ≡ Some here
  pub price : W
  pub step : cell t s here.place ≡ Some price
  pub below : IsBelow (levels_sum (levels here.total) (levels price)) threshold

-- no step does so for the walks from the number fresh on
abbrev pub AllReach : {W : Type 0} → (W → Levels) → Square W → List (Node W) → Levels → ℕ → ℕ → Type 0
AllReach {W} levels t nodes threshold fresh s = (n : ℕ) (x : Node W) (w : W) → fresh ≤ n → slice_get nodes n ≡ Some x → cell t s x.place ≡ Some w →
    IsAtMost threshold (levels_sum (levels x.total) (levels w))

-- the walk x is the walk m with a step more, which doesn't lead to the start
pub record Extends {W : Type 0} (levels : W → Levels) (t : Square W) (s : ℕ) (m x : Node W) : Type 0 where
  pub price : W
  pub step : cell t x.place m.place ≡ Some price
  pub total : levels x.total ≡ levels_sum (levels m.total) (levels price)
  pub away : s ≢ x.place
  pub steps : m.steps < x.steps

-- the first walk is the one without steps, and each other one has a step more than an earlier one
pub record AreWalks {W : Type 0} (levels : W → Levels) (t : Square W) (s most : ℕ) (nodes : List (Node W)) : Type 0 where
  pub some : 0 < length nodes
  pub first : (x : Node W) → slice_get nodes 0 ≡ Some x → (x.place ≡ s) × (levels x.total ≡ zero_levels)
  pub later : (n : ℕ) (x : Node W) → slice_get nodes (suc n) ≡ Some x → (m : Node W) × (x.before ≤ n) × (slice_get nodes x.before ≡ Some m) × Extends levels t s m x
  pub placed : ArePlaced t nodes
  pub few : (n : ℕ) (x : Node W) → slice_get nodes n ≡ Some x → x.steps ≤ most

-- the list of walks while a round goes on: those before the round have fewer steps
pub record IsGrowing {W : Type 0} (levels : W → Levels) (t : Square W) (s steps end : ℕ) (nodes : List (Node W)) : Type 0 where
  pub walks : AreWalks levels t s steps nodes
  pub within : end ≤ length nodes
  pub before : (n : ℕ) (x : Node W) → n < end → slice_get nodes n ≡ Some x → x.steps < steps

-- the list has the same walks in front
pub record Grows {W : Type 0} (old new : List (Node W)) : Type 0 where
  pub len : length old ≤ length new
  pub same : (n : ℕ) (x : Node W) → slice_get old n ≡ Some x → slice_get new n ≡ Some x

abbrev pub AreEnds : {W : Type 0} → List (Node W) → List (Option ℕ) → Type 0
AreEnds nodes table = (j : ℕ) → j < length table → IsEnd nodes (length nodes) j (get_or table j None)
