use Rattle.std.proofs.Common.{◌≡◌, ◌++◌}
use Rattle.std.specs.List.{flat_map}
use Rattle.sc_shape.specs.Classes.{entry}
use Rattle.sc_shape.specs.Shapes.{list_below}
use Rattle.sc_shape.specs.SideLists.{is_own}
use Rattle.sc_svg.specs.Drawings.{vertex_line}
use Rattle.sc_svg.proofs.drawing.print_vertices.Given as goal

abbrev pub invariant-loop-side : goal.invariant-loop-side
invariant-loop-side l = l.out.items ≡ l.fn.out.items ++ flat_map (λ r. vertex_line (entry l.xs r) (entry l.xs (entry l.lasts r)) l.base) (list_below (is_own l.least) l.side)
