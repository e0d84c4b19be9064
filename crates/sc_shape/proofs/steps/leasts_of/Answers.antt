use Rattle.std.proofs.Common.{length}
use Rattle.sc_shape.specs.inside.SideLists.{AreSteps}
use Rattle.sc_shape.proofs.OrbitLeasts.{leasts_from_steps}
use Rattle.sc_shape.proofs.steps.leasts_of.Goals as goal

pub returns : goal.returns
returns c =
    let g = c.args.sides.now in
    let are : AreSteps g (length g) c.as_slice-mates.result.now c.as_slice-nexts.result.now c.as_slice-turns.result.now =
    rw (c.as_slice-mates.ensures.value, c.as_slice-nexts.ensures.value, c.as_slice-turns.ensures.value) c.in_ok-steps.ensures in
    leasts_from_steps g c.as_slice-mates.result.now c.as_slice-nexts.result.now c.as_slice-turns.result.now c.in_ok-components.components.items c.in_ok-boundaries.boundaries.items c.in_ok-vertices.vertices.items c.requires.ribbon are c.in_ok-components.ensures c.in_ok-boundaries.ensures c.in_ok-vertices.ensures
