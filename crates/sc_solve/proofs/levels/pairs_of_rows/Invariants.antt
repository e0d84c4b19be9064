use Rattle.std.proofs.Common.{◌≡◌, map}
use Rattle.std.specs.List.{range_with_len}
use Rattle.sc_solve.specs.inside.PriceLevels.{pair_of_row}
use Rattle.sc_solve.proofs.levels.pairs_of_rows.Given as goal

abbrev pub invariant-loop-n : goal.invariant-loop-n
invariant-loop-n l = l.list.items ≡ map (pair_of_row l.prices) (range_with_len l.first l.n)
