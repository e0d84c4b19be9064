-- Said by private functions alone: what the prices of steps and the totals of walks show that don't fit, for given
-- prices of a basis.
use Rattle.std.specs.Prelude.{ℕ, List, Option, Some, None}
use Rattle.sc_theory.specs.Chains.{Chain}
use Rattle.sc_weight.specs.Levels.{Levels}
use Rattle.sc_rows.specs.Places.{spot, wide_at}
use Rattle.sc_rows.specs.declared.fault.Place.TheVariants.{TurnPrice, StepPrice, WalkSum}
use Rattle.sc_rows.specs.declared.fault.RowFault.{RowFault}
use Rattle.sc_rows.specs.declared.fault.RowFault.TheVariants.{Wide as RowWide, Memory as RowMemory}
use Rattle.sc_tables.specs.Tables.{IsPolygonBelow, AllAtLeast}
use Rattle.sc_tables.specs.declared.tables.TableFault.{TableFault}
use Rattle.sc_tables.specs.declared.tables.TableFault.TheVariants.{Wide as TableWide, Memory as TableMemory}
use Rattle.sc_tables.specs.declared.prices.StepFault.{StepFault}
use Rattle.sc_tables.specs.declared.prices.StepFault.TheVariants.{Turn, Step, Memory}

abbrev pub refusal_of_step : StepFault → RowFault
refusal_of_step (Turn row level wide) = RowWide (wide_at (spot (TurnPrice level) row 0 None) wide)
refusal_of_step (Step from to level wide) = RowWide (wide_at (spot (StepPrice level) from to None) wide)
refusal_of_step Memory = RowMemory

abbrev pub refusal_of_table : TableFault → RowFault
refusal_of_table (TableWide walk level wide) =
    RowWide (record {
      place = WalkSum level;
      first = 0;
      second = 0;
      wide = wide;
      walk = Some walk;
      entering = None;
      leaving = None;
    })
refusal_of_table TableMemory = RowMemory

-- the polygon is below the threshold, or where there is none every closed walk is at least that
abbrev pub MatchCheap : Chain → (ℕ → ℕ → Levels) → Levels → Option (List ℕ) → Type 0
MatchCheap c price threshold (Some walk) = IsPolygonBelow c price threshold walk
MatchCheap c price threshold None = AllAtLeast c price threshold
