-- The refusals of rows and prices, each with its place, indices and operands.
use Rattle.std.specs.Prelude.{◌≢◌, ◌⊎◌, ℕ, ◌<◌, List, length, None, ℤ, pos, ◌*ℤ◌}
use Rattle.sc_weight.specs.declared.level.Level.{Level}
use Rattle.sc_weight.specs.declared.level.Level.TheVariants.{Bulk, Fine}
use Rattle.sc_whole.specs.declared.checked.Op.TheVariants.{Sub}
use Rattle.sc_basis.specs.Products.{dot, IsReduced}
use Rattle.sc_basis.specs.Bases.{Column, entry_of}
use Rattle.sc_rows.specs.Lines.{Line, row_of, den_of}
use Rattle.sc_rows.specs.Standing.{entries_of, cost_at, gap_at}
use Rattle.sc_rows.specs.Places.{spot, IsWide, IsWideProduct}
use Rattle.sc_rows.specs.Updates.{IsWideUpdate}
use Rattle.sc_rows.specs.declared.fault.Place.TheVariants.{GapMinus}
use Rattle.sc_rows.specs.declared.fault.WideAt.{WideAt}
use Rattle.sc_rows.specs.declared.prices.PriceRow.{PriceRow}
use Rattle.sc_rows.specs.declared.prices.PriceRows.{PriceRows}
use Rattle.sc_rows.specs.declared.product.Product.TheVariants.{Along, Value, Gap}
use Rattle.sc_rows.specs.declared.update.Update.TheVariants.{Row, Prices}

-- in the product of the row i with the column
abbrev pub IsWideAlong : List Line → Column → WideAt → Type 0
IsWideAlong rows c w = (i : ℕ) × (i < length rows) × IsWideProduct (Along i) (length rows) (row_of rows i) (entry_of c) w

-- in the product of the row i with a list
abbrev pub IsWideValue : List Line → ℕ → (ℕ → ℤ) → WideAt → Type 0
IsWideValue rows i b w = IsWideProduct (Value i) (length rows) (row_of rows i) b w

-- the row w over its product a with the column, with no common divisor
pub record OverProduct (n : ℕ) (w : ℕ → ℤ) (a : ℤ) : Type 0 where
  pub entries : ℕ → ℤ
  pub scale : ℤ
  pub reduced : IsReduced n entries scale w a

-- in the new row of a row whose product with the column isn't 0; a i is the product of the row i, and the row l leaves
pub record IsWidePivot (rows : List Line) (a : ℕ → ℤ) (l : ℕ) (w : WideAt) : Type 0 where
  pub moving : ℕ
  pub inside : moving < length rows
  pub other : moving ≢ l
  pub moves : a moving ≢ pos 0
  pub left : OverProduct (length rows) (row_of rows l) (a l)
  pub wide : IsWideUpdate (Row moving l) (length rows) (row_of rows moving) (den_of rows moving) left.entries left.scale (a moving) w

-- in the price of the column at a level, or in what it lacks of the column's cost
abbrev pub IsWideGap : ℕ → PriceRow → Level → Column → WideAt → Type 0
IsWideGap r p level c w =
    IsWideProduct (Gap level) r (entries_of p) (entry_of c) w
    ⊎ IsWide (spot (GapMinus level) 0 0 None) Sub (p.scale *ℤ cost_at level) (dot r (entries_of p) (entry_of c)) w

-- in the new prices at a level, where v is the leaving row l
pub record IsWidePrices (r : ℕ) (p : PriceRow) (level : Level) (c : Column) (v : ℕ → ℤ) (l : ℕ) (w : WideAt) : Type 0 where
  pub left : OverProduct r v (dot r v (entry_of c))
  pub wide : IsWideUpdate (Prices level l) r (entries_of p) p.scale left.entries left.scale (gap_at r p level c) w

-- in the product of the leaving row with the column, or at one of the levels
abbrev pub IsWidePricePivot : ℕ → PriceRows → Column → (ℕ → ℤ) → ℕ → WideAt → Type 0
IsWidePricePivot r p c v l w =
    IsWideProduct (Along l) r v (entry_of c) w
    ⊎ (IsWideGap r p.bulk Bulk c w ⊎ IsWidePrices r p.bulk Bulk c v l w)
    ⊎ (IsWideGap r p.fine Fine c w ⊎ IsWidePrices r p.fine Fine c v l w)
