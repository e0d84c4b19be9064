-- What `solve` answers.
use Rattle.std.specs.Prelude.{◌≡◌, ◌⊎◌, ℕ, ◌<◌, ◌≤◌, List, map, length, get_or, slice_get, Option, Some, None, ℤ, pos, ◌≤ℤ◌}
use Rattle.sc_basis.specs.Bases.{Column as Entries, item}
use Rattle.sc_basis.specs.Standing.{BasisNumbers, Stands}
use Rattle.sc_basis.specs.Journals.{Journal}
use Rattle.sc_basis.specs.Values.{value, SumTo}
use Rattle.sc_fraction.specs.declared.frac.Frac.{Frac}
use Rattle.sc_fraction.specs.Frac.{IsQuotient, numerator}
use Rattle.sc_rows.specs.Standing.{PricesStand}
use Rattle.sc_rows.specs.declared.fault.WideAt.{WideAt}
use Rattle.sc_rows.specs.declared.prices.PriceRows.{PriceRows}
use Rattle.sc_simplex.specs.declared.column.Column.{Column}
use Rattle.sc_simplex.specs.declared.column.Item.{Item}
use Rattle.sc_simplex.specs.declared.column.Item.TheVariants.{Unit as UnitOf, Column as ColumnAt}
use Rattle.sc_simplex.specs.declared.column.KeyPivot.{KeyPivot}
use Rattle.sc_simplex.specs.declared.solving.Optimum.{Optimum}
use Rattle.sc_simplex.specs.declared.solving.SimplexFault.{SimplexFault}
use Rattle.sc_simplex.specs.declared.solving.SimplexFault.TheVariants.{Budget, Wide, Memory}
use Rattle.sc_simplex.specs.Columns.{key_of}
use Rattle.sc_simplex.specs.Oracles.{ColumnsBy, ShownBy, ImprovesAt, NoneImproves}
use Rattle.sc_simplex.specs.NamedJournals.{IsLawfulBy, basis_of, first_seen, pivot_key}
use Rattle.sc_simplex.specs.WideOperations.{IsWideOperation}

-- ---- the items of a basis
abbrev pub no_item : Item
no_item = UnitOf 0

-- the item at the index i of a basis is told: its unit column, or a stored column
abbrev pub IsItem : List Column → ℕ → Option Entries → Item → Type 0
IsItem columns i None (UnitOf k) = k ≡ i
IsItem columns i None (ColumnAt j) = ⊥
IsItem columns i (Some c) (UnitOf k) = ⊥
IsItem columns i (Some c) (ColumnAt j) = (own : Column) × (slice_get columns j ≡ Some own) × (own.entries.items ≡ c)

-- each stored column is one that there is
abbrev pub AreColumns : ColumnsBy → List Column → Type 0
AreColumns C columns = (j : ℕ) (own : Column) → slice_get columns j ≡ Some own → C own.key.items own.entries.items

-- the items, and the stored columns: exactly the distinct keys of the journal, in first-seen order
pub record AreItems (C : ColumnsBy) (r : ℕ) (ps : Journal) (journal : List KeyPivot) (basis : List Item) (columns : List Column) : Type 0 where
  pub size : length basis ≡ r
  pub items : (i : ℕ) → i < r → IsItem columns i (item (basis_of r ps) i) (get_or basis i no_item)
  pub stored : AreColumns C columns
  pub keys : map key_of columns ≡ first_seen (map pivot_key journal)

-- ---- values
-- the value of each item is its row's product with b over the row's denominator. None is negative, and that of a unit
-- is 0
pub record AreValues (r : ℕ) (b : ℕ → ℤ) (ps : Journal) (t : BasisNumbers) (list : List Frac) : Type 0 where
  pub size : length list ≡ r
  pub values : (i : ℕ) (f : Frac) → slice_get list i ≡ Some f → IsQuotient (value r b t i) (t.denominator i) f
  pub not_negative : (i : ℕ) (f : Frac) → slice_get list i ≡ Some f → pos 0 ≤ℤ numerator f
  pub units : (i : ℕ) (f : Frac) → slice_get list i ≡ Some f → item (basis_of r ps) i ≡ None → numerator f ≡ pos 0

-- ---- answers
pub record IsOptimum (C : ColumnsBy) (r : ℕ) (b : ℕ → ℤ) (budget : ℕ) (o : Optimum) : Type 0 where
  pub pivots : Journal
  pub lawful : IsLawfulBy C r b o.journal.items pivots
  pub within : length o.journal.items ≤ budget
  pub numbers : BasisNumbers
  pub stands : Stands r (basis_of r pivots) numbers
  pub prices : PricesStand r (basis_of r pivots) o.prices
  pub optimal : NoneImproves C r o.prices
  pub items : AreItems C r pivots o.journal.items o.basis.items o.columns
  pub values : AreValues r b pivots numbers o.values.items

-- the journal has `budget` pivots, and the column improves its last basis
pub record IsUsedUp (C : ColumnsBy) (r : ℕ) (b : ℕ → ℤ) (budget : ℕ) (journal : List KeyPivot) (column : Column) : Type 0 where
  pub pivots : Journal
  pub lawful : IsLawfulBy C r b journal pivots
  pub used : length journal ≡ budget
  pub prices : PriceRows
  pub stands : PricesStand r (basis_of r pivots) prices
  pub known : C column.key.items column.entries.items
  pub improves : ImprovesAt r prices column.entries.items

-- the oracle shows the refusal for the prices of the last basis
pub record IsShownAfter (shows : ShownBy) (r : ℕ) (ps : Journal) (at : WideAt) : Type 0 where
  pub prices : PriceRows
  pub stands : PricesStand r (basis_of r ps) prices
  pub shown : shows prices at

-- after the journal an operation is too wide, or the oracle shows why it stops
pub record IsWideAfter (C : ColumnsBy) (shows : ShownBy) (r : ℕ) (b : ℕ → ℤ) (budget : ℕ) (journal : List KeyPivot) (at : WideAt) : Type 0 where
  pub pivots : Journal
  pub lawful : IsLawfulBy C r b journal pivots
  pub within : length journal ≤ budget
  pub wide : IsShownAfter shows r pivots at ⊎ IsWideOperation C r b budget (length journal) pivots at

abbrev pub IsStopped : ColumnsBy → ShownBy → ℕ → (ℕ → ℤ) → ℕ → SimplexFault → Type 0
IsStopped C shows r b budget (Budget journal column) = IsUsedUp C r b budget journal.items column
IsStopped C shows r b budget (Wide journal at) = IsWideAfter C shows r b budget journal.items at
IsStopped C shows r b budget Memory = Unit {0}

-- ---- what is asked of the right side: some columns, repeats allowed, sum to it
pub record IsSumOfColumns (C : ColumnsBy) (r : ℕ) (b : ℕ → ℤ) : Type 0 where
  pub columns : List Entries
  pub are_columns : (j : ℕ) (c : Entries) → slice_get columns j ≡ Some c → (key : List ℕ) × C key c
  pub sum : SumTo r columns b
