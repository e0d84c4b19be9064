-- The columns of the polygons of a chain, as the simplex has them: the polygon's walk is the key.
use Rattle.std.specs.Prelude.{◌≡◌, ℕ, Bool, not, List, map, ℤ, pos}
use Rattle.std.specs.List.{filter, range_with_len}
use Rattle.std.specs.Ordering.{int_eq}
use Rattle.sc_theory.specs.Chains.{Chain}
use Rattle.sc_theory.specs.Walks.{IsPolygon}
use Rattle.sc_theory.specs.Columns.{rows, column}
use Rattle.sc_basis.specs.Bases.{Column as Entries}

-- whether an entry isn't 0
abbrev pub is_entry : ℕ × ℤ → Bool
is_entry e = not (int_eq e.1 (pos 0))

-- the entries that aren't 0 of a list of numbers, by ascending indices
abbrev pub entries_by : (ℕ → ℤ) → ℕ → Entries
entries_by x r = filter is_entry (map (λ k. (k, x k)) (range_with_len 0 r))

-- those of the column of a closed walk
abbrev pub column_entries : Chain → List ℕ → Entries
column_entries c walk = entries_by (column c walk) (rows c)

-- the columns that there are: those of the polygons of the chain, each under its walk
pub record IsPolygonColumn (c : Chain) (key : List ℕ) (entries : Entries) : Type 0 where
  pub polygon : IsPolygon c key
  pub entries_are : entries ≡ column_entries c key
