-- The new rows of a pivot, each or none.
use Rattle.std.specs.Prelude.{◌≡◌, ◌≢◌, ℕ, ◌<◌, List, length, get_or, Option, Some, None, ℤ, ◌-ℤ◌, ◌*ℤ◌}
use Rattle.sc_basis.specs.Products.{at, IsReduced}
use Rattle.sc_rows.specs.Lines.{Line, no_line, row_of, den_of}

-- the new list, or the old one where there is none
abbrev pub chosen : Option Line → Line → Line
chosen None old = old
chosen (Some new) old = new

-- what a pivot makes of the row i, if it isn't the leaving row l; a i is the product of the row i with the column
pub record IsRowPivoted (rows : List Line) (a : ℕ → ℤ) (l i : ℕ) (new : Line) : Type 0 where
  pub size : length new.entries ≡ length rows
  pub reduced : IsReduced (length rows) (at new.entries) new.den (λ k. a l *ℤ row_of rows i k -ℤ a i *ℤ row_of rows l k) (a l *ℤ den_of rows i)

abbrev pub IsFresh : List Line → (ℕ → ℤ) → ℕ → ℕ → Option Line → Type 0
IsFresh rows a l i o = i ≢ l → IsRowPivoted rows a l i (chosen o (get_or rows i no_line))

-- so are the first n
abbrev pub AreFresh : List Line → (ℕ → ℤ) → ℕ → ℕ → List (Option Line) → Type 0
AreFresh rows a l n fresh = (i : ℕ) → i < n → IsFresh rows a l i (get_or fresh i None)
