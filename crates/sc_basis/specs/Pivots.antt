-- Pivots: a column that improves enters a basis in place of one of its items.
use Rattle.std.specs.Prelude.{◌≡◌, ◌≢◌, ◌⊎◌, ℕ, ◌<◌, Some, set, ℤ, pos, ◌+ℤ◌, ◌-ℤ◌, ◌*ℤ◌, ◌<ℤ◌}
use Rattle.sc_basis.specs.Products.{dot, IsCoprime, IsReduced}
use Rattle.sc_basis.specs.Bases.{Column, entry_of, Basis}
use Rattle.sc_basis.specs.Standing.{BasisNumbers, Stands}
use Rattle.sc_basis.specs.LeastRows.{IsLeastRow}

-- ---- what enters and what leaves
-- the pair of the column's bulk and fine price is below 0 and the fine scale, in the order of pairs
abbrev pub Improves : ℕ → BasisNumbers → Column → Type 0
Improves r t c = (dot r t.bulk (entry_of c) <ℤ pos 0) ⊎ ((dot r t.bulk (entry_of c) ≡ pos 0) × (dot r t.fine (entry_of c) <ℤ t.fine_scale))

-- the product of row i with the column
abbrev pub along : ℕ → BasisNumbers → Column → ℕ → ℤ
along r t c i = dot r (t.row i) (entry_of c)

-- of the rows with a positive product with the column, l is the one whose list, divided by that product, comes
-- first
abbrev pub IsLeaving : ℕ → (ℕ → ℤ) → BasisNumbers → Column → ℕ → Type 0
IsLeaving r b t c l = IsLeastRow r b (along r t c) t.row r l

-- the row that leaves and the column that enters
abbrev pub Pivot : Type 0
Pivot = ℕ × Column

-- the column improves, and the row is the leaving one
pub record IsLawful (r : ℕ) (b : ℕ → ℤ) (basis : Basis) (p : Pivot) : Type 0 where
  pub numbers : BasisNumbers
  pub stands : Stands r basis numbers
  pub improves : Improves r numbers p.1
  pub leaves : IsLeaving r b numbers p.1 p.0

-- the column in place of the row's item
abbrev pub after_pivot : Basis → Pivot → Basis
after_pivot basis p = set basis p.0 (Some p.1)

-- ---- the numbers after a pivot, from those before it. In all of these a l is the product of the leaving row with the
-- column the leaving row is divided by its product with the column; from another row so much of it is taken away that
-- the product with the column becomes 0
pub record RowsPivoted (r : ℕ) (row : ℕ → ℕ → ℤ) (denominator : ℕ → ℤ) (row' : ℕ → ℕ → ℤ) (denominator' : ℕ → ℤ) (a : ℕ → ℤ) (l : ℕ) : Type 0 where
  pub left : IsReduced r (row' l) (denominator' l) (row l) (a l)
  pub others : (i : ℕ) → i < r → i ≢ l → IsReduced r (row' i) (denominator' i) (λ k. a l *ℤ row i k -ℤ a i *ℤ row l k) (a l *ℤ denominator i)

-- what the price of the column lacks of its own cost, times the scale
abbrev pub gap : ℕ → (ℕ → ℤ) → ℤ → ℤ → Column → ℤ
gap r v scale cost c = scale *ℤ cost -ℤ dot r v (entry_of c)

-- so much of the leaving row w is added to the prices v that the gap g is closed; a is the product of w with
-- the column
abbrev pub PricesPivoted : ℕ → (ℕ → ℤ) → ℤ → (ℕ → ℤ) → ℤ → ℤ → (ℕ → ℤ) → ℤ → Type 0
PricesPivoted r v scale v' scale' g w a = IsReduced r v' scale' (λ k. a *ℤ v k +ℤ g *ℤ w k) (a *ℤ scale)

-- rows and both price lists after the pivot in which the column enters at the row l
pub record NumbersPivoted (r : ℕ) (t : BasisNumbers) (t' : BasisNumbers) (c : Column) (l : ℕ) : Type 0 where
  pub rows : RowsPivoted r t.row t.denominator t'.row t'.denominator (along r t c) l
  pub bulk : PricesPivoted r t.bulk t.bulk_scale t'.bulk t'.bulk_scale (gap r t.bulk t.bulk_scale (pos 0) c) (t.row l) (along r t c l)
  pub fine : PricesPivoted r t.fine t.fine_scale t'.fine t'.fine_scale (gap r t.fine t.fine_scale (pos 1) c) (t.row l) (along r t c l)

-- ---- ratios
-- q over p is a over m in lowest terms
pub record IsRatio (m a p q : ℤ) : Type 0 where
  pub positive : pos 0 <ℤ p
  pub same : m *ℤ q ≡ a *ℤ p
  pub coprime : IsCoprime 1 (λ k. q) p
