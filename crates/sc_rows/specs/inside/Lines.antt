-- Said by private functions alone: lists of whole numbers with a denominator, one for each row.
use Rattle.std.specs.Prelude.{◌≡◌, ℕ, ◌<◌, length, pos}
use Rattle.sc_basis.specs.Products.{at, unit}
use Rattle.sc_rows.specs.Lines.{Line}

-- the row i of the identity
pub record IsUnitLine (r i : ℕ) (line : Line) : Type 0 where
  pub size : length line.entries ≡ r
  pub entries : (k : ℕ) → k < r → at line.entries k ≡ unit i k
  pub den : line.den ≡ pos 1
