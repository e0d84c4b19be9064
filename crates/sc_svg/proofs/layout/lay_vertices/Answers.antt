use Rattle.std.proofs.Common.{◌≡◌, ℕ, ◌<◌, true, false, length, arith, sym, ◌∙◌}
use Rattle.std.proofs.lemmas.Bool.{eq-eqb, ne_eqb}
use Rattle.sc_algebra.specs.Permutations.{is_least_for}
use Rattle.sc_algebra.proofs.Sums.{count-le}
use Rattle.sc_fatgraph.proofs.MarkedOrbits.{turn_permutes}
use Rattle.sc_theory.specs.Fatgraphs.{turn}
use Rattle.sc_shape.specs.Classes.{entry}
use Rattle.sc_svg.proofs.LayingOut.{laid_to, laid_more, laid_stay, counted_more, counted_stay}
use Rattle.sc_svg.proofs.layout.lay_vertices.Goals as goal
use Rattle.sc_svg.proofs.layout.lay_vertices.Goals.{then-least-start+in_ok-lasts, else-least-start}

pub lay_vertex-requires-clause-laid : goal.lay_vertex-requires-clause-laid
lay_vertex-requires-clause-laid c =
    let g = c.args.sides.now in
    let s : ℕ = c.loop-start.start in
    let l : s < length g = omega (arith, c.loop-start-test.true) in
    let least : is_least_for (turn g) (length g) s ≡ true = sym (c.requires.least s l) ∙ eq-eqb (entry c.args.least.now s) s c.if-least-start.true in
    laid_to (turn g) (length g) (turn_permutes g c.requires.ribbon) s c.loop-start.order.items c.loop-start.xs c.loop-start.lasts l least c.loop-start.invariant.0

pub overflow_add-vertices : goal.overflow_add-vertices
overflow_add-vertices c =
    let g = c.args.sides.now in
    omega (arith, c.loop-start.invariant.1, count-le (is_least_for (turn g) (length g)) c.loop-start.start, c.loop-start-test.true, c.requires.few)

pub loop-start-preserved : goal.loop-start-preserved
loop-start-preserved c =
    let g = c.args.sides.now in
    let s : ℕ = c.loop-start.start in
    let l : s < length g = omega (arith, c.loop-start-test.true) in
    elim c.if-least-start.branch [
      | then-least-start+in_ok-lasts w ↦
          let least : is_least_for (turn g) (length g) s ≡ true = sym (c.requires.least s l) ∙ eq-eqb (entry c.args.least.now s) s w.if-least-start.true in
          rw (w.order-is, w.xs-is, w.lasts-is, w.vertices-is) (
            laid_more (turn g) (length g) (turn_permutes g c.requires.ribbon) s c.loop-start.order.items c.loop-start.xs c.loop-start.lasts w.in_ok-lasts.field-0 w.lay_vertex.new.order.items w.lay_vertex.new.xs l least c.loop-start.invariant.0 w.lay_vertex.auto.xs w.in_ok-lasts.ensures,
            counted_more (is_least_for (turn g) (length g)) s c.loop-start.vertices least c.loop-start.invariant.1,
          )
      | else-least-start w ↦
          let other : is_least_for (turn g) (length g) s ≡ false = sym (c.requires.least s l) ∙ ne_eqb (entry c.args.least.now s) s w.if-least-start.false in
          rw (w.order-is, w.xs-is, w.lasts-is, w.vertices-is) (
            laid_stay (turn g) (length g) s c.loop-start.order.items c.loop-start.xs c.loop-start.lasts other c.loop-start.invariant.0,
            counted_stay (is_least_for (turn g) (length g)) s c.loop-start.vertices other c.loop-start.invariant.1,
          )
    ]
