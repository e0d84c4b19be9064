use Rattle.sc_gluing.specs.inside.Sides.{AreOpposites}
use Rattle.sc_gluing.proofs.sides.opposites_of.Given as goal

abbrev pub invariant-loop-side : goal.invariant-loop-side
invariant-loop-side l = AreOpposites l.chain l.labels l.afters l.side l.opposites.items
