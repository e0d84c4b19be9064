use Rattle.sc_gluing.specs.inside.Letters.{AreListed}
use Rattle.sc_gluing.proofs.seeds.listed_sides.Given as goal

abbrev pub invariant-loop-side : goal.invariant-loop-side
invariant-loop-side l = AreListed l.labels l.mates l.nexts l.side l.sides.items
