-- The numbers that stand for a basis: the rows of its inverse, and its prices at two levels.
use Rattle.std.specs.Prelude.{◌≡◌, ℕ, ◌<◌, ℤ, pos, negsuc, ◌*ℤ◌, ◌<ℤ◌}
use Rattle.sc_basis.specs.Products.{dot, unit, IsCoprime}
use Rattle.sc_basis.specs.Bases.{Basis, columns, bulk_costs, fine_costs}

-- the list v over d gives the numbers x: d is positive, and the product of v with the column j is d times x j
pub record Gives (r : ℕ) (column : ℕ → ℕ → ℤ) (x : ℕ → ℤ) (v : ℕ → ℤ) (d : ℤ) : Type 0 where
  pub positive : pos 0 <ℤ d
  pub product : (j : ℕ) → j < r → dot r v (column j) ≡ d *ℤ x j

-- rows with their denominators, and two price lists with their scales
pub record BasisNumbers : Type 0 where
  pub row : ℕ → ℕ → ℤ
  pub denominator : ℕ → ℤ
  pub bulk : ℕ → ℤ
  pub bulk_scale : ℤ
  pub fine : ℕ → ℤ
  pub fine_scale : ℤ

-- row i gives 1 at item i and 0 at the others, each price list gives the costs of the items, and no list has a common
-- divisor with its denominator or scale
pub record Stands (r : ℕ) (basis : Basis) (t : BasisNumbers) : Type 0 where
  pub rows : (i : ℕ) → i < r → Gives r (columns basis) (unit i) (t.row i) (t.denominator i)
  pub rows_coprime : (i : ℕ) → i < r → IsCoprime r (t.row i) (t.denominator i)
  pub bulk : Gives r (columns basis) (bulk_costs basis) t.bulk t.bulk_scale
  pub bulk_coprime : IsCoprime r t.bulk t.bulk_scale
  pub fine : Gives r (columns basis) (fine_costs basis) t.fine t.fine_scale
  pub fine_coprime : IsCoprime r t.fine t.fine_scale

-- the numbers of the basis of the unit columns: the identity, each bulk price -1, each fine price 0
abbrev pub start_numbers : BasisNumbers
start_numbers =
    record {
      row = λ i. unit i;
      denominator = λ i. pos 1;
      bulk = λ k. negsuc 0;
      bulk_scale = pos 1;
      fine = λ k. pos 0;
      fine_scale = pos 1;
    }

-- the same rows, denominators, prices and scales
pub record AreSameNumbers (r : ℕ) (t t' : BasisNumbers) : Type 0 where
  pub rows : (i k : ℕ) → i < r → k < r → t.row i k ≡ t'.row i k
  pub denominators : (i : ℕ) → i < r → t.denominator i ≡ t'.denominator i
  pub bulk : (k : ℕ) → k < r → t.bulk k ≡ t'.bulk k
  pub bulk_scale : t.bulk_scale ≡ t'.bulk_scale
  pub fine : (k : ℕ) → k < r → t.fine k ≡ t'.fine k
  pub fine_scale : t.fine_scale ≡ t'.fine_scale
