use Rattle.std.proofs.Common.{ℕ, ap, ◌∙◌}
use Rattle.std.proofs.lemmas.Bool.{eq-eqb, ne_eqb}
use Rattle.sc_shape.specs.Classes.{entry}
use Rattle.sc_shape.specs.SideLists.{is_own}
use Rattle.sc_svg.specs.Drawings.{vertex_line}
use Rattle.sc_svg.proofs.Drawn.{lines_pass, lines_fail}
use Rattle.sc_svg.proofs.drawing.print_vertices.Goals as goal
use Rattle.sc_svg.proofs.drawing.print_vertices.Goals.{then-own-side+in_ok-print_vertex, else-own-side}

pub loop-side-preserved : goal.loop-side-preserved
loop-side-preserved c =
    let least = c.args.least.now in
    let lasts = c.args.lasts.now in
    let xs = c.args.xs.now in
    let b : ℕ = c.args.base in
    let s : ℕ = c.loop-side.side in
    elim c.if-own-side.branch [
      | then-own-side+in_ok-print_vertex w ↦
          lines_pass (λ r. vertex_line (entry xs r) (entry xs (entry lasts r)) b) (is_own least) s c.args.out.now.items c.loop-side.out.items c.if-own-side.out.items
          (eq-eqb (entry least s) s w.if-own-side.true) c.loop-side.invariant (ap (λ v. v.items) w.out-is ∙ w.in_ok-print_vertex.ensures)
      | else-own-side w ↦
          ap (λ v. v.items) w.out-is
          ∙ lines_fail (λ r. vertex_line (entry xs r) (entry xs (entry lasts r)) b) (is_own least) s c.args.out.now.items c.loop-side.out.items
          (ne_eqb (entry least s) s w.if-own-side.false) c.loop-side.invariant
    ]
