use Rattle.std.proofs.Common.{sym}
use Rattle.sc_chain.proofs.PairPlaces.{outside, outside_second}
use Rattle.sc_chain.proofs.pairs.Pairs.place.Goals as goal
use Rattle.sc_chain.proofs.pairs.Pairs.place.Goals.{else-p-self-via-then-p-self+else-q-self, else-p-self-via-else-p-self}

pub returns-else-p-self : goal.returns-else-p-self
returns-else-p-self c = elim c.else-p-self.branch [
  | else-p-self-via-then-p-self+else-q-self w ↦ rw (← c.self.view_is) (sym (outside_second c.self.inside.pairs.items c.self.inside.positions c.args.p c.args.q c.self.invariant.pairs w.if-q-self.false))
  | else-p-self-via-else-p-self w ↦ rw (← c.self.view_is) (sym (outside c.self.inside.pairs.items c.self.inside.positions c.args.p c.args.q c.self.invariant.pairs w.if-p-self.false))
]
