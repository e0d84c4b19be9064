-- The sizes of price lists and distance tables.
use Rattle.std.specs.Prelude.{◌≡◌, ℕ, List, ℤ, length}
use Rattle.std.specs.List.{AllByRecursion}
use Rattle.sc_theory.specs.Prices.{Prices, Tables}
use Rattle.sc_text.specs.PriceLines.{IsScaleInRange, IsPriceInRange}
use Rattle.sc_text.specs.TableLines.{IsEntryInRange}

-- the list of a scale, the prices of words, and those of pairs
abbrev pub list_of : ℤ → List ℤ → List ℤ → Prices
list_of scale base pair = record { scale = scale; base = base; pair = pair }

-- the scale and the prices are in their ranges
pub record IsSmallList (list : Prices) : Type 0 where
  pub scale : IsScaleInRange list.scale
  pub base : AllByRecursion IsPriceInRange list.base
  pub pair : AllByRecursion IsPriceInRange list.pair

-- so are the entries of the tables
abbrev pub AreSmallTables : Tables → Type 0
AreSmallTables tables = AllByRecursion (AllByRecursion IsEntryInRange) tables

-- a list for a chain of so many words and inverse pairs
pub record FitsCounts (words pairs : ℕ) (list : Prices) : Type 0 where
  pub base : length list.base ≡ words
  pub pair : length list.pair ≡ pairs

-- tables for so many positions: one for each, with an entry for each
pub record AreTablesOf (positions : ℕ) (tables : Tables) : Type 0 where
  pub count : length tables ≡ positions
  pub entries : AllByRecursion (λ table. length table ≡ positions) tables
