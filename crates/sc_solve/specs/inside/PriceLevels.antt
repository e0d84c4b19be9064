-- Said by private functions alone: the prices of a basis at two levels, as prices of the steps of a chain.
use Rattle.std.specs.Prelude.{ℕ}
use Rattle.sc_weight.specs.Levels.{Levels}
use Rattle.sc_weight.specs.declared.pair.Pair.{Pair}
use Rattle.sc_rows.specs.Standing.{entries_of}
use Rattle.sc_rows.specs.declared.prices.PriceRows.{PriceRows}

-- the two numbers of a pair as levels, and the prices of a row at both levels as a pair
abbrev pub levels_of : Pair → Levels
levels_of w = record { bulk = w.bulk; fine = w.fine }

abbrev pub pair_of_row : PriceRows → ℕ → Pair
pair_of_row p k = record { bulk = entries_of p.bulk k; fine = entries_of p.fine k }
