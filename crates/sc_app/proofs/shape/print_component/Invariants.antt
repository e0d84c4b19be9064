use Rattle.std.proofs.Common.{◌≡◌, ◌++◌, take, map}
use Rattle.sc_line.specs.Lines.{ended, text_of}
use Rattle.sc_app.specs.Shape.{boundary_line, component_line}
use Rattle.sc_app.proofs.shape.print_component.Given as goal

abbrev pub invariant-loop-boundary : goal.invariant-loop-boundary
invariant-loop-boundary l = l.out.items ≡ (l.fn.out.items ++ ended (component_line l.number l.component)) ++ text_of (map boundary_line (take l.boundary-index l.component.boundaries))
