-- Lists of whole numbers with a denominator, one for each row.
use Rattle.std.specs.Prelude.{◌≡◌, ℕ, ◌<◌, List, [], length, get_or, ℤ, pos, ◌<ℤ◌}
use Rattle.sc_basis.specs.Products.{at, IsCoprime}

-- entries over one denominator
pub record Line : Type 0 where
  pub entries : List ℤ
  pub den : ℤ

abbrev pub no_line : Line
no_line = record { entries = []; den = pos 0 }

-- the numerators of the row i, and their denominator
abbrev pub row_of : List Line → ℕ → ℕ → ℤ
row_of rows i = at (get_or rows i no_line).entries

abbrev pub den_of : List Line → ℕ → ℤ
den_of rows i = (get_or rows i no_line).den

-- as many entries in each row as there are rows, over a positive denominator, with no common divisor
pub record AreRows (rows : List Line) : Type 0 where
  pub sizes : (i : ℕ) → i < length rows → length (get_or rows i no_line).entries ≡ length rows
  pub dens : (i : ℕ) → i < length rows → pos 0 <ℤ den_of rows i
  pub coprime : (i : ℕ) → i < length rows → IsCoprime (length rows) (row_of rows i) (den_of rows i)
