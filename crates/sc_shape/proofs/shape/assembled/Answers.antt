use Rattle.std.proofs.Common.{◌≡◌, ℕ, true, List, length, arith, sym, ◌∙◌, subst}
use Rattle.sc_shape.specs.inside.SideLists.{AreLeasts, AreTallies, PointInside}
use Rattle.sc_shape.specs.SideLists.{is_own}
use Rattle.sc_shape.proofs.OrbitLeasts.{boundaries_inside}
use Rattle.sc_shape.proofs.Placing.{components_inside, stand_at_places, written_back}
use Rattle.sc_shape.proofs.Assembling as assembling
use Rattle.sc_shape.proofs.shape.assembled.Goals as goal

pub sizes_of-requires-clause-inside : goal.sizes_of-requires-clause-inside
sizes_of-requires-clause-inside c =
    let l = c.requires.leasts in
    let P : List ℕ → Type 0 = PointInside in
    subst P (sym c.as_slice-components.ensures.value) (components_inside c.args.sides.now c.args.leasts.now.components.items l.as_many_components l.components_are)

pub inner_classes_of-requires-clause-inside : goal.inner_classes_of-requires-clause-inside
inner_classes_of-requires-clause-inside c =
    let l = c.requires.leasts in
    let P : List ℕ → Type 0 = PointInside in
    subst P (sym c.as_slice-components.ensures.value) (components_inside c.args.sides.now c.args.leasts.now.components.items l.as_many_components l.components_are)

pub sizes_of-requires-2-clause-inside : goal.sizes_of-requires-2-clause-inside
sizes_of-requires-2-clause-inside c =
    let l = c.requires.leasts in
    let P : List ℕ → Type 0 = PointInside in
    subst P (sym c.as_slice-boundaries.ensures.value) (boundaries_inside c.args.sides.now c.args.leasts.now.boundaries.items l.as_many_boundaries l.boundaries_are)

pub add_boundaries-requires-clause-inside : goal.add_boundaries-requires-clause-inside
add_boundaries-requires-clause-inside c =
    let l = c.requires.leasts in
    let P : List ℕ → Type 0 = PointInside in
    subst P (sym c.as_slice-components.ensures.value) (components_inside c.args.sides.now c.args.leasts.now.components.items l.as_many_components l.components_are)

pub add_boundaries-requires-clause-at_places : goal.add_boundaries-requires-clause-at_places
add_boundaries-requires-clause-at_places c =
    let g = c.args.sides.now in
    let components : List ℕ = c.as_slice-components.result.now in
    let l : AreLeasts g components c.args.leasts.now.boundaries.items c.args.leasts.now.vertices.items = rw c.as_slice-components.ensures.value c.requires.leasts in
    let new : List ℕ = c.bare_components.new.places in
    let kept : length new ≡ c.in_ok-places.places.len = omega (arith, c.bare_components.auto.places, c.as_mut_slice.ensures.len) in
    let places : c.as_slice-5.result.now ≡ new = c.as_slice-5.ensures.value ∙ written_back new c.in_ok-places.places.items c.in_ok-places.places.len kept in
    rw places
    (stand_at_places g components c.as_slice-2.result.now c.as_slice-3.result.now c.in_ok-found.found.items new l.as_many_components l.components_are
    (record { listed = c.in_ok-found.ensures.found; placed = c.in_ok-found.ensures.places }))

pub returns : goal.returns
returns c =
    let g = c.args.sides.now in
    let components : List ℕ = c.as_slice-components.result.now in
    let boundaries : List ℕ = c.as_slice-boundaries.result.now in
    let vertices : List ℕ = c.as_slice.result.now in
    let sizes : List ℕ = c.as_slice-2.result.now in
    let counts : List ℕ = c.as_slice-3.result.now in
    let lengths : List ℕ = c.as_slice-4.result.now in
    let l : AreLeasts g components boundaries vertices = rw (c.as_slice-components.ensures.value, c.as_slice-boundaries.ensures.value, c.as_slice.ensures.value) c.requires.leasts in
    let ts : AreTallies (λ _. true) components (length components) sizes = rw c.as_slice-2.ensures.value c.in_ok-sizes.ensures in
    let tc : AreTallies (is_own vertices) components (length components) counts = rw c.as_slice-3.ensures.value c.in_ok-vertices.ensures in
    let tl : AreTallies (λ _. true) boundaries (length boundaries) lengths = rw c.as_slice-4.ensures.value c.in_ok-lengths.ensures in
    assembling.assembled c.args.chain.now g components boundaries vertices sizes counts lengths l ts tc tl c.in_ok-found.found.items c.add_boundaries.new.found.items c.in_ok-found.ensures.found c.in_ok-add_boundaries.ensures
