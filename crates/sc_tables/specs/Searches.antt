-- The walks that a search for cheap walks keeps.
use Rattle.std.specs.Prelude.{◌≡◌, ◌≢◌, ℕ, ◌<◌, ◌≤◌, List, length, slice_get, Option, Some, None}
use Rattle.sc_weight.specs.Levels.{Levels, levels_sum}
use Rattle.sc_tables.specs.Squares.{Square, cell}
use Rattle.sc_tables.specs.Totals.{IsAtMost}
use Rattle.sc_tables.specs.declared.search.Node.{Node}
use Rattle.sc_tables.specs.declared.search.Candidate.{Candidate}

-- ---- one step more

-- what was found, if anything, is at most this
abbrev pub Under : {W : Type 0} → (W → Levels) → Option (Candidate W) → Levels → Type 0
Under levels None total = ⊥
Under levels (Some b) total = IsAtMost (levels b.total) total

-- what was found is at most each total of a walk with a step to j, over the walks from the number fresh to below end
abbrev pub UnderEach : {W : Type 0} → (W → Levels) → Square W → List (Node W) → ℕ → ℕ → ℕ → Option (Candidate W) → Type 0
UnderEach {W} levels t nodes fresh end j found = (n : ℕ) (x : Node W) (w : W) → fresh ≤ n → n < end → slice_get nodes n ≡ Some x → cell t j x.place ≡ Some w →
    Under levels found (levels_sum (levels x.total) (levels w))

-- ---- the table of a start

-- an entry is the number of a walk to the position, one of the first ones
abbrev pub IsEnd : {W : Type 0} → List (Node W) → ℕ → ℕ → Option ℕ → Type 0
IsEnd {W} nodes end j None = Unit {0}
IsEnd {W} nodes end j (Some n) = (x : Node W) × (n < end) × (slice_get nodes n ≡ Some x) × (x.place ≡ j)

-- the walk of the entry has at most this total
abbrev pub Lower : {W : Type 0} → (W → Levels) → List (Node W) → Option ℕ → Levels → Type 0
Lower {W} levels nodes None total = ⊥
Lower {W} levels nodes (Some n) total = (x : Node W) × (slice_get nodes n ≡ Some x) × IsAtMost (levels x.total) total

-- o is the entry of the position j after a round, and before was its entry up to then
pub record IsNext {W : Type 0} (levels : W → Levels) (t : Square W) (nodes : List (Node W)) (fresh end s j : ℕ) (before o : Option ℕ) : Type 0 where
  pub placed : IsEnd nodes (length nodes) j o
  pub old : (n : ℕ) → o ≡ Some n → n < end → before ≡ Some n
  pub kept : (n : ℕ) (x : Node W) → before ≡ Some n → slice_get nodes n ≡ Some x → Lower levels nodes o (levels x.total)
  pub under_each : j ≢ s → (n : ℕ) (x : Node W) (w : W) → fresh ≤ n → n < end → slice_get nodes n ≡ Some x → cell t j x.place ≡ Some w →
      Lower levels nodes o (levels_sum (levels x.total) (levels w))
  pub start : j ≡ s → o ≡ before
