-- Rows and prices that stand for a basis.
use Rattle.std.specs.Prelude.{◌≡◌, ℕ, ◌<◌, List, length, ℤ, pos, ◌<ℤ◌}
use Rattle.sc_weight.specs.declared.level.Level.{Level}
use Rattle.sc_weight.specs.declared.level.Level.TheVariants.{Bulk, Fine}
use Rattle.sc_basis.specs.Products.{at, dot, unit, IsCoprime}
use Rattle.sc_basis.specs.Bases.{Column, Basis, entry_of, columns, bulk_costs, fine_costs}
use Rattle.sc_basis.specs.Standing.{Gives, BasisNumbers}
use Rattle.sc_basis.specs.Pivots.{PricesPivoted, gap}
use Rattle.sc_rows.specs.Lines.{Line, row_of, den_of}
use Rattle.sc_rows.specs.declared.prices.PriceRow.{PriceRow}
use Rattle.sc_rows.specs.declared.prices.PriceRows.{PriceRows}

-- the prices of one list
abbrev pub entries_of : PriceRow → ℕ → ℤ
entries_of p = at p.entries.items

-- r prices at each level, over a positive scale
pub record ArePrices (r : ℕ) (p : PriceRows) : Type 0 where
  pub bulk_size : length p.bulk.entries.items ≡ r
  pub bulk_scale : pos 0 <ℤ p.bulk.scale
  pub fine_size : length p.fine.entries.items ≡ r
  pub fine_scale : pos 0 <ℤ p.fine.scale

-- row i gives 1 at item i of the basis and 0 at the others, with no common divisor
pub record RowsStand (r : ℕ) (basis : Basis) (rows : List Line) : Type 0 where
  pub items : length basis ≡ r
  pub size : length rows ≡ r
  pub give : (i : ℕ) → i < r → Gives r (columns basis) (unit i) (row_of rows i) (den_of rows i)
  pub coprime : (i : ℕ) → i < r → IsCoprime r (row_of rows i) (den_of rows i)

-- the prices of each level give the costs of the items of the basis, with no common divisor
pub record PricesStand (r : ℕ) (basis : Basis) (p : PriceRows) : Type 0 where
  pub items : length basis ≡ r
  pub prices : ArePrices r p
  pub bulk : Gives r (columns basis) (bulk_costs basis) (entries_of p.bulk) p.bulk.scale
  pub bulk_coprime : IsCoprime r (entries_of p.bulk) p.bulk.scale
  pub fine : Gives r (columns basis) (fine_costs basis) (entries_of p.fine) p.fine.scale
  pub fine_coprime : IsCoprime r (entries_of p.fine) p.fine.scale

-- rows and prices as the numbers of a basis
abbrev pub numbers_of : List Line → PriceRows → BasisNumbers
numbers_of rows p =
    record {
      row = row_of rows;
      denominator = den_of rows;
      bulk = entries_of p.bulk;
      bulk_scale = p.bulk.scale;
      fine = entries_of p.fine;
      fine_scale = p.fine.scale;
    }

-- ---- levels
-- the cost of a column
abbrev pub cost_at : Level → ℤ
cost_at Bulk = pos 0
cost_at Fine = pos 1

-- what the price of the column at a level lacks of its cost, times the scale
abbrev pub gap_at : ℕ → PriceRow → Level → Column → ℤ
gap_at r p level c = gap r (entries_of p) p.scale (cost_at level) c

-- the prices new at a level in place of p, where the column c enters and the row v leaves
abbrev pub AreNewPrices : ℕ → Level → PriceRow → PriceRow → (ℕ → ℤ) → Column → Type 0
AreNewPrices r level p new v c = PricesPivoted r (entries_of p) p.scale (entries_of new) new.scale (gap_at r p level c) v (dot r v (entry_of c))
