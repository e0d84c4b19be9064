-- Said by private functions alone: the numbers of distances of one level, as the tables of a list.
use Rattle.std.specs.Prelude.{◌≡◌, ℕ, ◌<◌, List, [], length, get_or, Option, None, ℤ}
use Rattle.std.specs.Option.{option_map}
use Rattle.sc_weight.specs.declared.plain.Plain.{Plain}
use Rattle.sc_theory.specs.Prices.{Tables}
use Rattle.sc_tables.specs.Squares.{Square, cell}
use Rattle.sc_solve.specs.ListSteps.{number}

-- the table has the numbers of the first n cells of the start s
pub record IsTableOf (t : Square Plain) (s n : ℕ) (table : List (Option ℤ)) : Type 0 where
  pub len : length table ≡ n
  pub at : (j : ℕ) → j < n → get_or table j None ≡ option_map number (cell t s j)

-- the tables are those of the first n starts
pub record AreFirstTables (t : Square Plain) (n : ℕ) (tables : Tables) : Type 0 where
  pub len : length tables ≡ n
  pub at : (s : ℕ) → s < n → IsTableOf t s t.side (get_or tables s [])
