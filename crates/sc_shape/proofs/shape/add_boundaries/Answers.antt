use Rattle.std.proofs.Common.{◌≡◌, ℕ, suc, List, map, arith, ap, sym, ◌∙◌, add-one}
use Rattle.std.proofs.lemmas.Bool.{eq-eqb, ne_eqb}
use Rattle.sc_shape.specs.Classes.{entry}
use Rattle.sc_shape.specs.inside.SideLists.{with_boundaries}
use Rattle.sc_shape.specs.declared.component.Component.{Component}
use Rattle.sc_shape.proofs.Placing.{puts_begin, puts_stay, puts_pushed, boundary_made}
use Rattle.sc_shape.proofs.shape.add_boundaries.Goals as goal
use Rattle.sc_shape.proofs.shape.add_boundaries.Goals.{then-least-side+in_ok-push, else-least-side}

pub loop-side-init : goal.loop-side-init
loop-side-init c = puts_begin c.args.chain.now c.args.sides.now c.args.components.now c.args.boundaries.now c.args.lengths.now c.args.found.now.items

pub loop-side-preserved : goal.loop-side-preserved
loop-side-preserved c =
    let chain = c.args.chain.now in
    let g = c.args.sides.now in
    let components = c.args.components.now in
    let boundaries = c.args.boundaries.now in
    let lengths = c.args.lengths.now in
    let places = c.args.places.now in
    let s : ℕ = c.loop-side.side in
    let xs : List Component = c.args.found.now.items in
    elim c.if-least-side.branch [
      | then-least-side+in_ok-push w ↦
          let b = w.boundary_at-boundary in
          puts_pushed chain g components boundaries lengths places xs s c.loop-side.found.items c.if-least-side.found.items w.index_mut.result.now b.result w.push.new.self
          c.requires.at_places
          (omega (arith, c.loop-side-test.true, c.requires.as_many_components, c.requires.as_many_boundaries))
          (eq-eqb (entry boundaries s) s w.if-least-side.true)
          c.loop-side.invariant
          w.index_mut.ensures.value
          (boundary_made chain g lengths s b.result.least b.result.word b.result.degree (b.ensures.least ∙ w.if-least-side.true) b.ensures.word b.ensures.degree)
          w.in_ok-push.ensures.ok
          (ap (λ v. v.items) w.found-is)
      | else-least-side w ↦
          let stay : map (with_boundaries chain g components boundaries lengths (suc s)) xs ≡ map (with_boundaries chain g components boundaries lengths s) xs = puts_stay chain g components boundaries lengths xs s (ne_eqb (entry boundaries s) s w.if-least-side.false) in
          ap (λ v. v.items) w.found-is ∙ c.loop-side.invariant ∙ sym stay ∙ ap (λ (k : ℕ). map (with_boundaries chain g components boundaries lengths k) xs) (sym (add-one s))
    ]
