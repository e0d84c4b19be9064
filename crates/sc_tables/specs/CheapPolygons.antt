-- What cheap_polygon answers.
use Rattle.std.specs.Prelude.{◌≡◌, ℕ, ◌≤◌, List, [], ◌∷◌, ◌++◌, length, Option}
use Rattle.std.specs.Option.{option_map}
use Rattle.sc_theory.specs.Chains.{Chain, positions}
use Rattle.sc_weight.specs.Levels.{Levels, levels_sum}
use Rattle.sc_weight.specs.Evidence.{IsFirstWideLevel}
use Rattle.sc_weight.specs.declared.level.Level.{Level}
use Rattle.sc_whole.specs.declared.checked.Wide.{Wide as Operation}
use Rattle.sc_whole.specs.declared.checked.Op.TheVariants.{Add}
use Rattle.sc_tables.specs.Squares.{Square, cell}
use Rattle.sc_tables.specs.Walks.{WalksAlong, end_of}
use Rattle.sc_tables.specs.Totals.{open_total}
use Rattle.sc_tables.specs.Tables.{AllAtLeast, IsPolygonBelow, AreLeastTotals, VouchFor}
use Rattle.sc_tables.specs.declared.tables.Found.{Found}
use Rattle.sc_tables.specs.declared.tables.Found.TheVariants.{Polygon, Tables}
use Rattle.sc_tables.specs.declared.tables.TableFault.{TableFault}
use Rattle.sc_tables.specs.declared.tables.TableFault.TheVariants.{Wide, Memory}

-- the numbers of the entries of tables
abbrev pub entry_in : {W : Type 0} → (W → Levels) → Square W → ℕ → ℕ → Option Levels
entry_in levels tables s j = option_map levels (cell tables s j)

-- a walk of at most as many steps as there are positions: the operands are the total without its last step, and the
-- price of that step, at the first level, bulk before fine, at which their exact sum is too wide
pub record IsWideWalk (c : Chain) (price : ℕ → ℕ → Levels) (walk : List ℕ) (level : Level) (wide : Operation) : Type 0 where
  pub start : ℕ
  pub front : List ℕ
  pub last : ℕ
  pub is : walk ≡ start ∷ (front ++ last ∷ [])
  pub steps : WalksAlong c start (front ++ last ∷ [])
  pub few : length (front ++ last ∷ []) ≤ positions c
  pub evidence : IsFirstWideLevel Add (levels_sum (open_total price start front) (price (end_of start front) last)) (open_total price start front) (price (end_of start front) last) (record { level = level; wide = wide })

abbrev pub IsTableFault : Chain → (ℕ → ℕ → Levels) → TableFault → Type 0
IsTableFault c price (Wide walk level wide) = IsWideWalk c price walk.items level wide
IsTableFault c price Memory = Unit {0}

-- a polygon that is answered is below the threshold
abbrev pub PolygonIsBelow : {W : Type 0} → Chain → (ℕ → ℕ → Levels) → Levels → Found W → Type 0
PolygonIsBelow c price threshold (Polygon polygon) = IsPolygonBelow c price threshold polygon
PolygonIsBelow c price threshold (Tables tables) = Unit {0}

-- where tables are answered, every closed walk has a total of at least the threshold
abbrev pub TablesOnlyWhere : {W : Type 0} → Chain → (ℕ → ℕ → Levels) → Levels → Found W → Type 0
TablesOnlyWhere c price threshold (Polygon polygon) = Unit {0}
TablesOnlyWhere c price threshold (Tables tables) = AllAtLeast c price threshold

-- tables that are answered have the size of the chain, vouch for the threshold, and hold the least totals
abbrev pub TablesFit : {W : Type 0} → Chain → Found W → Type 0
TablesFit c (Polygon polygon) = Unit {0}
TablesFit c (Tables tables) = tables.side ≡ positions c

abbrev pub TablesVouch : {W : Type 0} → (W → Levels) → Chain → (ℕ → ℕ → Levels) → Levels → Found W → Type 0
TablesVouch levels c price threshold (Polygon polygon) = Unit {0}
TablesVouch levels c price threshold (Tables tables) = VouchFor c price threshold (entry_in levels tables)

abbrev pub TablesAreLeast : {W : Type 0} → (W → Levels) → Chain → (ℕ → ℕ → Levels) → Found W → Type 0
TablesAreLeast levels c price (Polygon polygon) = Unit {0}
TablesAreLeast levels c price (Tables tables) = AreLeastTotals c price (entry_in levels tables)

-- ---- on the way

-- the ends of the steps of a closed walk: each position behind the first, and the first
abbrev pub round : List ℕ → List ℕ
round [] = []
round (i ∷ js) = js ++ i ∷ []
