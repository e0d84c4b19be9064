-- Lists of columns by their keys.
use Rattle.std.specs.Prelude.{◌≡◌, ℕ, List, map, Some, slice_get}
use Rattle.sc_simplex.specs.declared.column.Column.{Column}

-- the key of a column
abbrev pub key_of : Column → List ℕ
key_of c = c.key.items

-- the column at this place has this key
abbrev pub IsKeyAt : List Column → ℕ → List ℕ → Type 0
IsKeyAt columns i key = slice_get (map key_of columns) i ≡ Some key

-- no two columns have equal keys
abbrev pub HaveDistinctKeys : List Column → Type 0
HaveDistinctKeys columns = (i j : ℕ) (key : List ℕ) → IsKeyAt columns i key → IsKeyAt columns j key → i ≡ j
