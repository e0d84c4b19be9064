use Rattle.std.proofs.Common.{◌≡◌, map}
use Rattle.std.specs.List.{range_with_len}
use Rattle.sc_theory.specs.Columns.{right_side}
use Rattle.sc_solve.proofs.columns.right_side_of.Given as goal

abbrev pub invariant-loop-row : goal.invariant-loop-row
invariant-loop-row l = l.side.items ≡ map (right_side l.chain) (range_with_len 0 l.row)
