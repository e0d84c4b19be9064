-- The entries of a column one after another.
use Rattle.std.specs.Prelude.{ℕ, zero, suc, get_or, ℤ, pos}
use Rattle.sc_basis.specs.Bases.{Column}

-- the index and the number of the entry that stands at the place m
abbrev pub index_at : Column → ℕ → ℕ
index_at c m = (get_or c m (0, pos 0)).0

abbrev pub number_at : Column → ℕ → ℤ
number_at c m = (get_or c m (0, pos 0)).1

-- the least index that is above those of the first m entries
abbrev pub reached : Column → ℕ → ℕ
reached c zero = 0
reached c (suc m) = suc (index_at c m)
