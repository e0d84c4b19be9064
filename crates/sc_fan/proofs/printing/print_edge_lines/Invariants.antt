use Rattle.std.proofs.Common.{◌≡◌, ◌++◌, take}
use Rattle.std.specs.List.{flat_map, enumerate_from}
use Rattle.sc_theory.specs.Prices.{pairs}
use Rattle.sc_fan.specs.inside.Printing.{edge_piece}
use Rattle.sc_fan.proofs.printing.print_edge_lines.Given as goal

abbrev pub invariant-loop-number : goal.invariant-loop-number
invariant-loop-number l = l.out.items ≡ l.fn.out.items ++ flat_map (edge_piece (pairs l.upper) (pairs l.lower) l.corners) (take l.number (enumerate_from 0 l.edges))
