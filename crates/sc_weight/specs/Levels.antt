-- What a weight stands for: two unbounded whole numbers, bulk and fine.
use Rattle.std.specs.Prelude.{ℤ, pos, ◌+ℤ◌, ◌-ℤ◌, FitsSigned}
use Rattle.std.specs.Int.{w128}
use Rattle.std.specs.Ordering.{int_cmp, on, then_cmp}
use Rattle.std.specs.declared.cmp.Ordering.{Ordering}

pub record Levels : Type 0 where
  pub bulk : ℤ
  pub fine : ℤ

abbrev pub zero_levels : Levels
zero_levels = record { bulk = pos 0; fine = pos 0 }

-- sums and differences, level by level
abbrev pub levels_sum : Levels → Levels → Levels
levels_sum x y = record { bulk = x.bulk +ℤ y.bulk; fine = x.fine +ℤ y.fine }

abbrev pub levels_difference : Levels → Levels → Levels
levels_difference x y = record { bulk = x.bulk -ℤ y.bulk; fine = x.fine -ℤ y.fine }

-- the order by bulk, and then by fine
abbrev pub levels_cmp : Levels → Levels → Ordering
levels_cmp = then_cmp (on (λ l. l.bulk) int_cmp) (on (λ l. l.fine) int_cmp)

-- both levels are numbers of 128 bits
pub record FitsBoth (l : Levels) : Type 0 where
  pub bulk_fits : FitsSigned w128 l.bulk
  pub fine_fits : FitsSigned w128 l.fine
