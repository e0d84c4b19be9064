use Rattle.std.proofs.Common.{ℕ, nat_lt, ap, ◌∙◌, lt-ltb, le-ltb, arith}
use Rattle.sc_theory.specs.Fatgraphs.{mate}
use Rattle.sc_shape.specs.Classes.{entry}
use Rattle.sc_svg.specs.Drawings.{edge_line}
use Rattle.sc_svg.proofs.Drawn.{lines_pass, lines_fail}
use Rattle.sc_svg.proofs.drawing.print_edges.Goals as goal
use Rattle.sc_svg.proofs.drawing.print_edges.Goals.{then-number-side+in_ok-print_edge, else-number-side}

pub loop-number-preserved : goal.loop-number-preserved
loop-number-preserved c =
    let g = c.args.sides.now in
    let xs = c.args.xs.now in
    let b : ℕ = c.args.base in
    let s : ℕ = c.loop-number.number in
    elim c.if-number-side.branch [
      | then-number-side+in_ok-print_edge w ↦
          lines_pass (λ s. edge_line (entry xs s) (entry xs (mate g s)) b) (λ s. nat_lt s (mate g s)) s c.args.out.now.items c.loop-number.out.items c.if-number-side.out.items
          (lt-ltb s (mate g s) w.if-number-side.true) c.loop-number.invariant (ap (λ v. v.items) w.out-is ∙ w.in_ok-print_edge.ensures)
      | else-number-side w ↦
          ap (λ v. v.items) w.out-is
          ∙ lines_fail (λ s. edge_line (entry xs s) (entry xs (mate g s)) b) (λ s. nat_lt s (mate g s)) s c.args.out.now.items c.loop-number.out.items
          (le-ltb s (mate g s) (omega (arith, w.if-number-side.false))) c.loop-number.invariant
    ]
