-- The walk of a node, read back from its end, and the totals of a table.
use Rattle.std.specs.Prelude.{◌≡◌, ℕ, ◌+◌, ◌<◌, ◌≤◌, List, ◌∷◌, length, get_or, slice_get, Option, Some, None}
use Rattle.sc_chain.specs.declared.limits.TheConstants.{MAX_POSITIONS}
use Rattle.sc_theory.specs.Chains.{Chain}
use Rattle.sc_weight.specs.Levels.{Levels}
use Rattle.sc_tables.specs.Squares.{Square}
use Rattle.sc_tables.specs.Walks.{LeadsTo}
use Rattle.sc_tables.specs.Totals.{open_total}
use Rattle.sc_tables.specs.StepPrices.{AreForChain, price_in}
use Rattle.sc_tables.specs.declared.search.Node.{Node}
use Rattle.sc_tables.specs.inside.Searches.{AreWalks}

-- the total of the walk that an entry names, and none where it names none
abbrev pub IsTotalOf : {W : Type 0} → List (Node W) → Option ℕ → Option W → Type 0
IsTotalOf {W} nodes None total = total ≡ None
IsTotalOf {W} nodes (Some n) total = (x : Node W) × (slice_get nodes n ≡ Some x) × (total ≡ Some x.total)

-- new is old and, behind it, the totals of the first n entries
pub record AreTotalsAfter {W : Type 0} (nodes : List (Node W)) (table : List (Option ℕ)) (old new : List (Option W)) (n : ℕ) : Type 0 where
  pub len : length new ≡ length old + n
  pub same : (k : ℕ) → k < length old → get_or new k None ≡ get_or old k None
  pub total : (j : ℕ) → j < n → IsTotalOf nodes (get_or table j None) (get_or new (length old + j) None)

-- the list is the walk of the node x: from s on, and not back to it
pub record IsWalkOf {W : Type 0} (levels : W → Levels) (c : Chain) (t : Square W) (s : ℕ) (x : Node W) (walk : List ℕ) : Type 0 where
  pub rest : List ℕ
  pub is : walk ≡ s ∷ rest
  pub leads : LeadsTo c s x.place rest
  pub total : open_total (price_in levels t) s rest ≡ levels x.total
  pub few : length rest ≤ x.steps

-- whatever chain, prices and start the nodes are walks of, the list is the walk of the node n
abbrev pub ReadsTo : {W : Type 0} → (W → Levels) → List (Node W) → ℕ → List ℕ → Type 0
ReadsTo {W} levels nodes n walk = (c : Chain) (t : Square W) (s most : ℕ) (x : Node W) → AreForChain c t → AreWalks levels t s most nodes → slice_get nodes n ≡ Some x → IsWalkOf levels c t s x walk

-- the nodes that a walk is read from: each but the first comes after the one before it, and its place is a position
pub record AreLinked {W : Type 0} (nodes : List (Node W)) : Type 0 where
  pub some : 0 < length nodes
  pub earlier : (n : ℕ) (x : Node W) → 0 < n → slice_get nodes n ≡ Some x → x.before < n
  pub place : (n : ℕ) (x : Node W) → slice_get nodes n ≡ Some x → x.place ≤ MAX_POSITIONS
  pub steps : (n : ℕ) (x : Node W) → slice_get nodes n ≡ Some x → x.steps ≤ MAX_POSITIONS
