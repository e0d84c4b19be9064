-- The row that leaves, in the search over the rows.
use Rattle.std.specs.Prelude.{◌≡◌, ◌≢◌, ℕ, suc, ◌<◌, List, length, Option, Some, None, ℤ, pos, ◌*ℤ◌, ◌≤ℤ◌, ◌<ℤ◌}
use Rattle.sc_basis.specs.Products.{dot}
use Rattle.sc_basis.specs.Lines.{line}
use Rattle.sc_basis.specs.LeastRows.{IsLeastRow}
use Rattle.sc_rows.specs.Lines.{Line, row_of}
use Rattle.sc_simplex.specs.declared.leaving.Best.{Best}

-- the lists of no two rows agree in all entries, each over a positive product
abbrev pub NoneTie : List Line → (ℕ → ℤ) → (ℕ → ℤ) → Type 0
NoneTie rows b a =
    (i l : ℕ) → i < length rows → l < length rows → i ≢ l → pos 0 <ℤ a i → pos 0 <ℤ a l
    → ((k : ℕ) → k < suc (length rows) → a i *ℤ line (length rows) b (row_of rows l) k ≡ a l *ℤ line (length rows) b (row_of rows i) k) → ⊥

-- the row with its product with b, where it comes first of the rows below n; none where no product is positive
pub record IsBestRow (rows : List Line) (b : ℕ → ℤ) (a : ℕ → ℤ) (n : ℕ) (x : Best) : Type 0 where
  pub least : IsLeastRow (length rows) b a (row_of rows) n x.row
  pub value : x.value ≡ dot (length rows) (row_of rows x.row) b

abbrev pub IsBest : List Line → (ℕ → ℤ) → (ℕ → ℤ) → ℕ → Option Best → Type 0
IsBest rows b a n None = (i : ℕ) → i < n → a i ≤ℤ pos 0
IsBest rows b a n (Some x) = IsBestRow rows b a n x

abbrev pub IsLeastOrNone : List Line → (ℕ → ℤ) → (ℕ → ℤ) → Option ℕ → Type 0
IsLeastOrNone rows b a None = (i : ℕ) → i < length rows → a i ≤ℤ pos 0
IsLeastOrNone rows b a (Some l) = IsLeastRow (length rows) b a (row_of rows) (length rows) l
