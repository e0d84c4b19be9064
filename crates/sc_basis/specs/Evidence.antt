-- The operations on whole numbers that finding the next basis asks for: each by its place, with its exact operands.
use Rattle.std.specs.Prelude.{◌≡◌, ◌≢◌, ℕ, ◌<◌, Bool, true, false, Option, Some, None, [], is_some, ℤ, pos, ◌+ℤ◌, ◌-ℤ◌, ◌*ℤ◌}
use Rattle.sc_basis.specs.Products.{dot, before, IsReduced}
use Rattle.sc_basis.specs.Bases.{Column, entry_of, unit_basis}
use Rattle.sc_basis.specs.Standing.{BasisNumbers, Stands}
use Rattle.sc_basis.specs.Pivots.{Improves, along, IsLeaving, gap, IsRatio}
use Rattle.sc_basis.specs.Journals.{Journal, IsJournal, basis_after}

-- ---- places
-- one of the two price lists
pub data PriceLevel : Type 0 where
  bulk_level : PriceLevel
  fine_level : PriceLevel

abbrev pub prices_at : BasisNumbers → PriceLevel → ℕ → ℤ
prices_at t bulk_level = t.bulk
prices_at t fine_level = t.fine

abbrev pub scale_at : BasisNumbers → PriceLevel → ℤ
scale_at t bulk_level = t.bulk_scale
scale_at t fine_level = t.fine_scale

-- the cost of a column
abbrev pub column_cost : PriceLevel → ℤ
column_cost bulk_level = pos 0
column_cost fine_level = pos 1

-- an operation of a product, of a new row or of new prices, with the row's number i and the entry's number k
pub data Place : Type 0 where
  along_product : ℕ → ℕ → Place
  along_sum : ℕ → ℕ → Place
  value_product : ℕ → ℕ → Place
  value_sum : ℕ → ℕ → Place
  row_left : ℕ → ℕ → Place
  row_right : ℕ → ℕ → Place
  row_difference : ℕ → ℕ → Place
  row_scale : ℕ → Place
  gap_product : PriceLevel → ℕ → Place
  gap_sum : PriceLevel → ℕ → Place
  gap_difference : PriceLevel → Place
  price_left : PriceLevel → ℕ → Place
  price_right : PriceLevel → ℕ → Place
  price_sum : PriceLevel → ℕ → Place
  price_scale : PriceLevel → Place

-- the exact result of the operation at a place
abbrev pub result_at : Place → ℤ → ℤ → ℤ
result_at (along_product i k) x y = x *ℤ y
result_at (along_sum i k) x y = x +ℤ y
result_at (value_product i k) x y = x *ℤ y
result_at (value_sum i k) x y = x +ℤ y
result_at (row_left i k) x y = x *ℤ y
result_at (row_right i k) x y = x *ℤ y
result_at (row_difference i k) x y = x -ℤ y
result_at (row_scale i) x y = x *ℤ y
result_at (gap_product level k) x y = x *ℤ y
result_at (gap_sum level k) x y = x +ℤ y
result_at (gap_difference level) x y = x -ℤ y
result_at (price_left level k) x y = x *ℤ y
result_at (price_right level k) x y = x *ℤ y
result_at (price_sum level k) x y = x +ℤ y
result_at (price_scale level) x y = x *ℤ y

-- whether the place speaks of an entering column, and whether of a leaving row
abbrev pub needs_entering : Place → Bool
needs_entering (value_product i k) = false
needs_entering (value_sum i k) = false
needs_entering (along_product i k) = true
needs_entering (along_sum i k) = true
needs_entering (row_left i k) = true
needs_entering (row_right i k) = true
needs_entering (row_difference i k) = true
needs_entering (row_scale i) = true
needs_entering (gap_product level k) = true
needs_entering (gap_sum level k) = true
needs_entering (gap_difference level) = true
needs_entering (price_left level k) = true
needs_entering (price_right level k) = true
needs_entering (price_sum level k) = true
needs_entering (price_scale level) = true

abbrev pub needs_leaving : Place → Bool
needs_leaving (along_product i k) = false
needs_leaving (along_sum i k) = false
needs_leaving (value_product i k) = false
needs_leaving (value_sum i k) = false
needs_leaving (row_left i k) = true
needs_leaving (row_right i k) = true
needs_leaving (row_difference i k) = true
needs_leaving (row_scale i) = true
needs_leaving (gap_product level k) = false
needs_leaving (gap_sum level k) = false
needs_leaving (gap_difference level) = false
needs_leaving (price_left level k) = true
needs_leaving (price_right level k) = true
needs_leaving (price_sum level k) = true
needs_leaving (price_scale level) = true

-- ---- operands
-- the new row l: the leaving row over its product with the column, without a common divisor
pub record NewLeft (r : ℕ) (t : BasisNumbers) (c : Column) (l : ℕ) : Type 0 where
  pub entries : ℕ → ℤ
  pub scale : ℤ
  pub reduced : IsReduced r entries scale (t.row l) (along r t c l)

-- the column improves, the row l leaves, and q over p is the product of another row i with the column, which
-- isn't 0, over the new row l's denominator
pub record RowStep (r : ℕ) (b : ℕ → ℤ) (t : BasisNumbers) (c : Column) (l i : ℕ) : Type 0 where
  pub improves : Improves r t c
  pub leaves : IsLeaving r b t c l
  pub left : NewLeft r t c l
  pub inside : i < r
  pub other : i ≢ l
  pub moved : along r t c i ≢ pos 0
  pub p : ℤ
  pub q : ℤ
  pub ratio : IsRatio left.scale (along r t c i) p q

-- the same for the gap of the prices at a level
pub record PriceStep (r : ℕ) (b : ℕ → ℤ) (t : BasisNumbers) (c : Column) (l : ℕ) (level : PriceLevel) : Type 0 where
  pub improves : Improves r t c
  pub leaves : IsLeaving r b t c l
  pub left : NewLeft r t c l
  pub p : ℤ
  pub q : ℤ
  pub ratio : IsRatio left.scale (gap r (prices_at t level) (scale_at t level) (column_cost level) c) p q

-- x and y are the operands at the place, where the column c enters and the row l leaves
abbrev pub Operands : ℕ → (ℕ → ℤ) → BasisNumbers → Column → ℕ → Place → ℤ → ℤ → Type 0
Operands r b t c l (along_product i k) x y = Improves r t c × (i < r) × (k < r) × (x ≡ t.row i k) × (y ≡ entry_of c k)
Operands r b t c l (along_sum i k) x y =
    Improves r t c × (i < r) × (k < r) × (x ≡ before (t.row i) (entry_of c) k) × (y ≡ t.row i k *ℤ entry_of c k)
Operands r b t c l (value_product i k) x y = (i < r) × (k < r) × (x ≡ t.row i k) × (y ≡ b k)
Operands r b t c l (value_sum i k) x y = (i < r) × (k < r) × (x ≡ before (t.row i) b k) × (y ≡ t.row i k *ℤ b k)
Operands r b t c l (row_left i k) x y = (s : RowStep r b t c l i) × (k < r) × (x ≡ t.row i k) × (y ≡ s.p)
Operands r b t c l (row_right i k) x y = (s : RowStep r b t c l i) × (k < r) × (x ≡ s.q) × (y ≡ s.left.entries k)
Operands r b t c l (row_difference i k) x y =
    (s : RowStep r b t c l i) × (k < r) × (x ≡ t.row i k *ℤ s.p) × (y ≡ s.q *ℤ s.left.entries k)
Operands r b t c l (row_scale i) x y = (s : RowStep r b t c l i) × (x ≡ t.denominator i) × (y ≡ s.p)
Operands r b t c l (gap_product level k) x y = Improves r t c × (k < r) × (x ≡ prices_at t level k) × (y ≡ entry_of c k)
Operands r b t c l (gap_sum level k) x y =
    Improves r t c × (k < r) × (x ≡ before (prices_at t level) (entry_of c) k) × (y ≡ prices_at t level k *ℤ entry_of c k)
Operands r b t c l (gap_difference level) x y =
    Improves r t c × (x ≡ scale_at t level *ℤ column_cost level) × (y ≡ dot r (prices_at t level) (entry_of c))
Operands r b t c l (price_left level k) x y =
    (s : PriceStep r b t c l level) × (k < r) × (x ≡ prices_at t level k) × (y ≡ s.p)
Operands r b t c l (price_right level k) x y = (s : PriceStep r b t c l level) × (k < r) × (x ≡ s.q) × (y ≡ s.left.entries k)
Operands r b t c l (price_sum level k) x y =
    (s : PriceStep r b t c l level) × (k < r) × (x ≡ prices_at t level k *ℤ s.p) × (y ≡ s.q *ℤ s.left.entries k)
Operands r b t c l (price_scale level) x y = (s : PriceStep r b t c l level) × (x ≡ scale_at t level) × (y ≡ s.p)

-- ---- evidence
abbrev pub column_or_none : Option Column → Column
column_or_none None = []
column_or_none (Some c) = c

abbrev pub row_or_first : Option ℕ → ℕ
row_or_first None = 0
row_or_first (Some l) = l

-- after the journal, which is lawful, the operation at the place has the operands x and y. An entering column
-- and a leaving row are told exactly where the place needs them
pub record IsEvidence (r : ℕ) (b : ℕ → ℤ) (ps : Journal) (place : Place) (entering : Option Column) (leaving : Option ℕ) (x y : ℤ) : Type 0 where
  pub lawful : IsJournal r b ps
  pub numbers : BasisNumbers
  pub stands : Stands r (basis_after (unit_basis r) ps) numbers
  pub entering_told : is_some entering ≡ needs_entering place
  pub leaving_told : is_some leaving ≡ needs_leaving place
  pub operands : Operands r b numbers (column_or_none entering) (row_or_first leaving) place x y
