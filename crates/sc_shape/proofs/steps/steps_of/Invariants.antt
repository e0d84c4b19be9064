use Rattle.sc_shape.specs.inside.SideLists.{AreSteps}
use Rattle.sc_shape.proofs.steps.steps_of.Given as goal

abbrev pub invariant-loop-side : goal.invariant-loop-side
invariant-loop-side l = AreSteps l.sides l.side-index l.mates.items l.nexts.items l.turns.items
