use Rattle.sc_gluing.specs.inside.Sides.{AreMates}
use Rattle.sc_gluing.proofs.sides.write_mates.Given as goal

abbrev pub invariant-loop-side : goal.invariant-loop-side
invariant-loop-side l = AreMates l.afters l.partners l.side l.mates
