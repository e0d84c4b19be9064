-- The answer of a search among the conditions of a price list.
use Rattle.std.specs.Prelude.{Option, Some, None}
use Rattle.sc_theory.specs.Prices.{Prices, Tables, Vouch, IsTight}
use Rattle.sc_fatgraph.specs.Surfaces.{Surface}
use Rattle.sc_prices.specs.Flaws.{IsFirstTableFlaw}
use Rattle.sc_prices.specs.declared.verdict.Condition.{Condition}
use Rattle.sc_prices.specs.declared.verdict.Condition.TheVariants.{Flaw, Value, Table, NotTight}

-- the tables vouch for the list and it is tight for the surface, or the first of the two that fails
abbrev pub IsListAnswer : Surface → Prices → Tables → Option Condition → Type 0
IsListAnswer f list tables None = Vouch f.chain list tables × IsTight f.chain list f.copies f.sides
IsListAnswer f list tables (Some (Flaw kind place)) = ⊥
IsListAnswer f list tables (Some Value) = ⊥
IsListAnswer f list tables (Some (Table flaw)) = IsFirstTableFlaw f.chain list tables flaw
IsListAnswer f list tables (Some NotTight) = Vouch f.chain list tables × ¬ IsTight f.chain list f.copies f.sides
