use Rattle.std.proofs.Common.{◌≡◌, ◌++◌, nat_lt}
use Rattle.std.specs.List.{flat_map}
use Rattle.sc_theory.specs.Fatgraphs.{mate}
use Rattle.sc_shape.specs.Classes.{entry}
use Rattle.sc_shape.specs.Shapes.{list_below}
use Rattle.sc_svg.specs.Drawings.{edge_line}
use Rattle.sc_svg.proofs.drawing.print_edges.Given as goal

abbrev pub invariant-loop-number : goal.invariant-loop-number
invariant-loop-number l = l.out.items ≡ l.fn.out.items ++ flat_map (λ s. edge_line (entry l.xs s) (entry l.xs (mate l.sides s)) l.base) (list_below (λ s. nat_lt s (mate l.sides s)) l.number)
