use Rattle.std.proofs.Common.{ℕ, ◌/◌, List, arith, ap, ap₂, ◌∙◌}
use Rattle.sc_shape.specs.Classes.{entry}
use Rattle.sc_shape.specs.declared.component.Boundary.{Boundary}
use Rattle.sc_shape.specs.declared.component.Component.{Component}
use Rattle.sc_shape.proofs.Placing.{listed_few, listed_pushed, listed_stay}
use Rattle.sc_shape.proofs.shape.bare_components.Goals as goal
use Rattle.sc_shape.proofs.shape.bare_components.Goals.{then-least-side+in_ok-push, else-least-side}

pub overflow_cast-places : goal.overflow_cast-places
overflow_cast-places c =
    let few = listed_few c.args.components.now c.args.sizes.now c.args.vertices.now c.loop-side.side c.loop-side.found.items c.loop-side.places c.loop-side.invariant in
    omega (arith, few, c.len.ensures, c.loop-side.found.ok.0, c.loop-side-test.true, c.requires.few)

pub loop-side-preserved : goal.loop-side-preserved
loop-side-preserved c =
    let components = c.args.components.now in
    let sizes = c.args.sizes.now in
    let vertices = c.args.vertices.now in
    let s : ℕ = c.loop-side.side in
    elim c.if-least-side.branch [
      | then-least-side+in_ok-push w ↦
          let x : Component = record { least = entry components s; sides = entry sizes s; vertices = entry vertices s; edges = entry sizes s / 2; boundaries = w.new.result } in
          listed_pushed components sizes vertices s c.loop-side.found.items c.loop-side.places x w.len.result c.if-least-side.found.items c.if-least-side.places
          (omega (arith, c.loop-side-test.true, c.loop-side.auto.places, c.requires.as_many_places))
          w.if-least-side.true
          (ap₂ (λ (r : ℕ) (bs : List Boundary). let y : Component = record { least = r; sides = entry sizes s; vertices = entry vertices s; edges = entry sizes s / 2; boundaries = bs } in y) w.if-least-side.true w.new.ensures)
          (omega (arith, w.len.ensures, c.loop-side.found.ok.0))
          (ap (λ v. v.items) w.found-is ∙ w.in_ok-push.ensures.items)
          w.places-is
          c.loop-side.invariant
      | else-least-side w ↦ rw (w.found-is, w.places-is) (listed_stay components sizes vertices s c.loop-side.found.items c.loop-side.places w.if-least-side.false c.loop-side.invariant)
    ]
