use Rattle.sc_gluing.specs.inside.Sides.{AreSides}
use Rattle.sc_gluing.proofs.sides.sides_of.Given as goal

abbrev pub invariant-loop-side : goal.invariant-loop-side
invariant-loop-side l = AreSides l.labels l.afters l.mates l.side l.sides.items
