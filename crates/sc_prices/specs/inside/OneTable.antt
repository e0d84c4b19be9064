-- The first flaw in one distance table.
use Rattle.std.specs.Prelude.{◌≡◌, ℕ, Option, Some, None}
use Rattle.sc_theory.specs.Chains.{Chain}
use Rattle.sc_theory.specs.Prices.{Prices, Tables}
use Rattle.sc_prices.specs.declared.flaws.TableFlaw.{TableFlaw}
use Rattle.sc_prices.specs.declared.flaws.TableFlaw.TheVariants.{Start, Step}
use Rattle.sc_prices.specs.Flaws.{HasTableFlaw, IsBefore}

-- the start in whose table a flaw is
abbrev pub start_of : TableFlaw → ℕ
start_of (Start s) = s
start_of (Step s i j) = s

-- in the table of s the flaw is the first
pub record IsFirstFrom (c : Chain) (list : Prices) (tables : Tables) (s : ℕ) (flaw : TableFlaw) : Type 0 where
  pub start : start_of flaw ≡ s
  pub here : HasTableFlaw c list tables flaw
  pub before : (other : TableFlaw) → start_of other ≡ s → IsBefore other flaw → ¬ HasTableFlaw c list tables other

-- the answer of a search in the table: its first flaw, or that there is none
abbrev pub IsFirstInTable : Chain → Prices → Tables → ℕ → Option TableFlaw → Type 0
IsFirstInTable c list tables s None = (flaw : TableFlaw) → start_of flaw ≡ s → ¬ HasTableFlaw c list tables flaw
IsFirstInTable c list tables s (Some flaw) = IsFirstFrom c list tables s flaw
