-- The order of pairs of whole numbers.
use Rattle.std.proofs.Common.{arith}
use Rattle.std.proofs.lemmas.Int.{ints}
use Rattle.sc_weight.specs.Levels.{Levels, zero_levels, levels_sum}
use Rattle.sc_tables.specs.Totals.{IsBelow, IsAtMost}

pub at_most-refl : (x : Levels) → IsAtMost x x
at_most-refl x = grind (arith, ints)

pub at_most-trans : (x y z : Levels) → IsAtMost x y → IsAtMost y z → IsAtMost x z
at_most-trans x y z h k = grind (arith, ints)

pub at_most_below : (x y z : Levels) → IsAtMost x y → IsBelow y z → IsBelow x z
at_most_below x y z h k = grind (arith, ints)

pub at_most_from_below : (x y : Levels) → IsBelow x y → IsAtMost x y
at_most_from_below x y h = grind (arith, ints)

pub at_most-sum : (x y u v : Levels) → IsAtMost x y → IsAtMost u v → IsAtMost (levels_sum x u) (levels_sum y v)
at_most-sum x y u v h k = grind (arith, ints)

-- a sum of two that are at least a threshold above 0
pub threshold_sum : (t x y : Levels) → IsBelow zero_levels t → IsAtMost t x → IsAtMost t y → IsAtMost t (levels_sum x y)
threshold_sum t x y above h k = grind (arith, ints)

-- what is at least 0 may be left out of a sum
pub at_most_rest : (x y : Levels) → IsAtMost zero_levels x → IsAtMost y (levels_sum x y)
at_most_rest x y h = grind (arith, ints)
