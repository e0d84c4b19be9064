-- Lawful journals, and what holds of every basis that one reaches.
use Rattle.std.specs.Prelude.{◌≡◌, ℕ, ◌<◌, List, [], ◌∷◌, length, ℤ, pos, ◌*ℤ◌, ◌<ℤ◌}
use Rattle.sc_algebra.specs.Sums.{sum_below}
use Rattle.sc_basis.specs.Products.{dot, unit}
use Rattle.sc_basis.specs.Bases.{Basis, unit_basis, columns}
use Rattle.sc_basis.specs.Standing.{Gives}
use Rattle.sc_basis.specs.Lines.{line, IsAbove}
use Rattle.sc_basis.specs.Pivots.{Pivot, IsLawful, after_pivot}

abbrev pub Journal : Type 0
Journal = List Pivot

-- each pivot is lawful at the basis that those before it lead to
abbrev pub LawfulFrom : ℕ → (ℕ → ℤ) → Basis → Journal → Type 0
LawfulFrom r b basis [] = Unit {0}
LawfulFrom r b basis (p ∷ ps) = IsLawful r b basis p × LawfulFrom r b (after_pivot basis p) ps

-- lawful pivots from the basis of the unit columns
abbrev pub IsJournal : ℕ → (ℕ → ℤ) → Journal → Type 0
IsJournal r b ps = LawfulFrom r b (unit_basis r) ps

abbrev pub basis_after : Basis → Journal → Basis
basis_after basis [] = basis
basis_after basis (p ∷ ps) = basis_after (after_pivot basis p) ps

-- the inverse of a list of columns over one scale: row i gives 1 at the column i and 0 at the others, and each
-- product is the sum over the columns of what the row makes of v times what x makes of the column
pub record Inverse (r : ℕ) (column : ℕ → ℕ → ℤ) : Type 0 where
  pub scale : ℤ
  pub row : ℕ → ℕ → ℤ
  pub positive : pos 0 <ℤ scale
  pub rows : (i : ℕ) → i < r → Gives r column (unit i) (row i) scale
  pub spread : (x v : ℕ → ℤ) → scale *ℤ dot r x v ≡ sum_below (λ i. dot r (row i) v *ℤ dot r x (column i)) r

-- what a lawful journal keeps: the basis has an item for each index and an inverse, and the list of each row of
-- the inverse, its product with b followed by its entries, is above 0
pub record IsReached (r : ℕ) (b : ℕ → ℤ) (basis : Basis) : Type 0 where
  pub size : length basis ≡ r
  pub inverse : Inverse r (columns basis)
  pub above : (i : ℕ) → i < r → IsAbove r (line r b (inverse.row i))
