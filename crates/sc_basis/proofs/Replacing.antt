-- A column in place of one item of a basis.
use Rattle.std.specs.Prelude.{◌≡◌, ◌≢◌, ℕ, ◌<◌, length, Option, Some, None, ℤ}
use Rattle.std.proofs.Common.{ap}
use Rattle.std.proofs.lemmas.List.{length-set, get_or-set_same, get_or-set_other}
use Rattle.sc_basis.specs.Bases.{Column, entry_of, Basis, item, entries_at, columns}
use Rattle.sc_basis.specs.Pivots.{after_pivot}

-- the column c stands at l, the others stay
pub record IsReplaced (column column' : ℕ → ℕ → ℤ) (c : ℕ → ℤ) (l : ℕ) : Type 0 where
  pub here : column' l ≡ c
  pub others : (j : ℕ) → j ≢ l → column' j ≡ column j

-- after a pivot the column is the item of its row, and the other items are as before
pub item-here : (basis : Basis) (l : ℕ) (c : Column) → l < length basis → item (after_pivot basis (l, c)) l ≡ Some c
item-here basis l c inside = get_or-set_same basis l (Some c) None inside

pub item-other : (basis : Basis) (l j : ℕ) (c : Column) → j ≢ l → item (after_pivot basis (l, c)) j ≡ item basis j
item-other basis l j c apart = get_or-set_other basis l j (Some c) None apart

-- the same of the entries of the items
pub replaced : (basis : Basis) (l : ℕ) (c : Column) → l < length basis → IsReplaced (columns basis) (columns (after_pivot basis (l, c))) (entry_of c) l
replaced basis l c inside =
    record {
      here = ap (λ (o : Option Column). entries_at l o) (item-here basis l c inside);
      others = λ j apart. ap (λ (o : Option Column). entries_at j o) (item-other basis l j c apart);
    }

pub length-after : (basis : Basis) (l : ℕ) (c : Column) → length (after_pivot basis (l, c)) ≡ length basis
length-after basis l c = length-set basis l (Some c)
