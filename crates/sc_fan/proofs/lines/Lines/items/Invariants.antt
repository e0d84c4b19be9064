use Rattle.sc_fan.proofs.ReaderLaws.{AreItems}
use Rattle.sc_fan.proofs.lines.Lines.items.Given as goal

abbrev pub invariant-loop-index : goal.invariant-loop-index
invariant-loop-index g l = AreItems (g.K.NumberedItem.kind l.kind l.context) (g.K.NumberedItem.count_of l.kind l.context) l.initial.self l.values.items l.self l._index
