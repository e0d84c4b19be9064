-- The state of the solver between two pivots.
use Rattle.std.specs.Prelude.{◌≡◌, ℕ, ◌<◌, List, [], ◌∷◌, ◌++◌, length, set, ℤ, pos, ◌<ℤ◌}
use Rattle.sc_basis.specs.Bases.{Column as Entries, Basis}
use Rattle.sc_basis.specs.Pivots.{after_pivot, along}
use Rattle.sc_basis.specs.Journals.{Journal, IsJournal}
use Rattle.sc_rows.specs.Lines.{Line}
use Rattle.sc_rows.specs.Standing.{RowsStand, PricesStand, numbers_of}
use Rattle.sc_rows.specs.declared.prices.PriceRows.{PriceRows}
use Rattle.sc_simplex.specs.declared.column.Column.{Column}
use Rattle.sc_simplex.specs.declared.column.Item.TheVariants.{Column as ColumnAt}
use Rattle.sc_simplex.specs.declared.column.KeyPivot.{KeyPivot}
use Rattle.sc_simplex.specs.declared.state.State.{State}
use Rattle.sc_simplex.specs.Columns.{IsKeyAt}
use Rattle.sc_simplex.specs.Oracles.{ColumnsBy, ImprovesAt}
use Rattle.sc_simplex.specs.NamedJournals.{AreNamed, basis_of}
use Rattle.sc_simplex.specs.Optima.{AreItems}

-- the journal is lawful, and rows, prices, items and columns are those of its last basis
pub record IsState (C : ColumnsBy) (r : ℕ) (b : ℕ → ℤ) (s : State) : Type 0 where
  pub pivots : Journal
  pub named : AreNamed C s.journal.items pivots
  pub lawful : IsJournal r b pivots
  pub rows : RowsStand r (basis_of r pivots) s.rows
  pub prices : PricesStand r (basis_of r pivots) s.prices
  pub items : AreItems C r pivots s.journal.items s.basis.items s.columns

-- rows and prices that stand for one basis, and a column that improves it and has a positive product with some row
pub record IsReady (r : ℕ) (rows : List Line) (p : PriceRows) (c : Entries) : Type 0 where
  pub basis : Basis
  pub rows_stand : RowsStand r basis rows
  pub prices_stand : PricesStand r basis p
  pub improves : ImprovesAt r p c
  pub some : ℕ
  pub inside : some < r
  pub positive : pos 0 <ℤ along r (numbers_of rows p) c some

-- after the column took the place of the item at the row l of some basis
abbrev pub RowsFollow : ℕ → List Line → List Line → ℕ → Entries → Type 0
RowsFollow r old new l c = (basis : Basis) → RowsStand r basis old → RowsStand r (after_pivot basis (l, c)) new

abbrev pub PricesFollow : ℕ → List Line → PriceRows → PriceRows → ℕ → Entries → Type 0
PricesFollow r rows old new l c = (basis : Basis) → RowsStand r basis rows → PricesStand r basis old → PricesStand r (after_pivot basis (l, c)) new

-- the column stands at this place: it stood there, or it was put behind the others
abbrev pub IsPushed : List Column → List Column → Column → ℕ → Type 0
IsPushed old new column place =
    ((i : ℕ) → IsKeyAt old i column.key.items → (place ≡ i) × (new ≡ old))
    × (((i : ℕ) → IsKeyAt old i column.key.items → ⊥) → (place ≡ length old) × (new ≡ old ++ column ∷ []))

-- what a pivot at the row leaves beside rows and prices: the column stands in the row, and the journal has one more
-- pivot
pub record IsNoted (old new : State) (row : ℕ) (column : Column) : Type 0 where
  pub rows : new.rows ≡ old.rows
  pub prices : new.prices ≡ old.prices
  pub place : ℕ
  pub pushed : IsPushed old.columns new.columns column place
  pub basis : new.basis.items ≡ set old.basis.items row (ColumnAt place)
  pub last : KeyPivot
  pub last_row : last.row ≡ row
  pub last_key : last.key.items ≡ column.key.items
  pub journal : new.journal.items ≡ old.journal.items ++ last ∷ []
