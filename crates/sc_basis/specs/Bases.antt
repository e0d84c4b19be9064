-- Columns, bases and their costs.
use Rattle.std.specs.Prelude.{ℕ, ◌<◌, ◌≤◌, ◌+◌, ◌==◌, if◌then◌else◌, List, [], ◌∷◌, get_or, replicate, Option, Some, None, ℤ, pos, negsuc}
use Rattle.sc_basis.specs.Products.{unit}

-- the entries of a column that may differ from 0, each with its index
abbrev pub Column : Type 0
Column = List (ℕ × ℤ)

-- the entry k
abbrev pub entry_of : Column → ℕ → ℤ
entry_of [] k = pos 0
entry_of (x ∷ xs) k = if x.0 == k then x.1 else entry_of xs k

-- each index is at least `first`, below r, and above those before it
abbrev pub IsAscending : ℕ → ℕ → Column → Type 0
IsAscending r first [] = Unit {0}
IsAscending r first (x ∷ xs) = (first ≤ x.0) × (x.0 < r) × IsAscending r (x.0 + 1) xs

-- an item for each index: a column, or none for the unit column of that index
abbrev pub Basis : Type 0
Basis = List (Option Column)

abbrev pub item : Basis → ℕ → Option Column
item basis j = get_or basis j None

-- the basis of the r unit columns
abbrev pub unit_basis : ℕ → Basis
unit_basis r = replicate r None

-- the entries of the item at the index j
abbrev pub entries_at : ℕ → Option Column → ℕ → ℤ
entries_at j None = unit j
entries_at j (Some c) = entry_of c

abbrev pub columns : Basis → ℕ → ℕ → ℤ
columns basis j = entries_at j (item basis j)

-- the cost of an item at each of two levels: a unit costs -1 and 0, a column 0 and 1
abbrev pub bulk_cost : Option Column → ℤ
bulk_cost None = negsuc 0
bulk_cost (Some c) = pos 0

abbrev pub fine_cost : Option Column → ℤ
fine_cost None = pos 0
fine_cost (Some c) = pos 1

abbrev pub bulk_costs : Basis → ℕ → ℤ
bulk_costs basis j = bulk_cost (item basis j)

abbrev pub fine_costs : Basis → ℕ → ℤ
fine_costs basis j = fine_cost (item basis j)
