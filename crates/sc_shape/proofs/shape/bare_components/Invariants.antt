use Rattle.sc_shape.proofs.Placing.{AreListed}
use Rattle.sc_shape.proofs.shape.bare_components.Given as goal

abbrev pub invariant-loop-side : goal.invariant-loop-side
invariant-loop-side l = AreListed l.components l.sizes l.vertices l.side l.found.items l.places
