use Rattle.sc_gluing.specs.inside.Sides.{AreKinds}
use Rattle.sc_gluing.proofs.sides.kinds_of.Given as goal

abbrev pub invariant-loop-side : goal.invariant-loop-side
invariant-loop-side l = AreKinds l.chain l.labels l.afters l.side l.kinds.items
