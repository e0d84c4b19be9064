-- Said by private functions alone: what cheap_polygon answers.
use Rattle.std.specs.Prelude.{◌≡◌, ℕ, ◌<◌, ◌≤◌, List, length, get_or, slice_get, take, Some}
use Rattle.sc_chain.specs.declared.limits.TheConstants.{MAX_POSITIONS}
use Rattle.sc_theory.specs.Chains.{Chain, positions}
use Rattle.sc_theory.specs.Walks.{IsClosedWalk}
use Rattle.sc_weight.specs.Levels.{Levels}
use Rattle.sc_tables.specs.Squares.{Square}
use Rattle.sc_tables.specs.Totals.{open_total, closed_total, IsBelow}
use Rattle.sc_tables.specs.StepPrices.{AreForChain, price_in}
use Rattle.sc_tables.specs.inside.Searches.{AreWalks, IsWideAt}
use Rattle.sc_tables.specs.declared.search.Node.{Node}
use Rattle.sc_tables.specs.declared.search.Stop.{Stop}
use Rattle.sc_tables.specs.declared.search.Stop.TheVariants as Stops
use Rattle.sc_weight.specs.declared.level.WideLevel.{WideLevel}
use Rattle.sc_tables.specs.declared.tables.TableFault.{TableFault}
use Rattle.sc_tables.specs.declared.tables.TableFault.TheVariants.{Memory}
use Rattle.sc_tables.specs.CheapPolygons.{IsTableFault, round}

-- a closed walk below the threshold
pub record IsClosedBelow (c : Chain) (price : ℕ → ℕ → Levels) (threshold : Levels) (walk : List ℕ) : Type 0 where
  pub closed : IsClosedWalk c walk
  pub below : IsBelow (closed_total price walk) threshold

-- the fault shows a walk with a step more, whatever chain, prices and start its nodes are walks of
abbrev pub ShowsWide : {W : Type 0} → (W → Levels) → List (Node W) → ℕ → ℕ → WideLevel → TableFault → Type 0
ShowsWide {W} levels nodes n to wide fault =
    (c : Chain) (t : Square W) (s most end : ℕ) → AreForChain c t → AreWalks levels t s most nodes → IsWideAt levels t nodes end to n wide → to < positions c →
    ((x : Node W) → slice_get nodes n ≡ Some x → x.steps < positions c) → IsTableFault c (price_in levels t) fault

-- a stop names a node and a position
abbrev pub NamesNode : {W : Type 0} → List (Node W) → Stop → Type 0
NamesNode nodes (Stops.Wide n to wide) = (n < length nodes) × (to ≤ MAX_POSITIONS)
NamesNode nodes Stops.Memory = Unit {0}

abbrev pub ShowsStop : {W : Type 0} → (W → Levels) → List (Node W) → Stop → TableFault → Type 0
ShowsStop levels nodes (Stops.Wide n to wide) fault = ShowsWide levels nodes n to wide fault
ShowsStop levels nodes Stops.Memory fault = fault ≡ Memory

-- the total of the first k steps of a closed walk
abbrev pub total_after : (ℕ → ℕ → Levels) → List ℕ → ℕ → Levels
total_after price walk k = open_total price (get_or walk 0 0) (take k (round walk))
