use Rattle.std.proofs.Common.{◌≡◌, ◌++◌, length}
use Rattle.std.specs.Vec.Iter.{into_iter_items, into_iter_len}
use Rattle.sc_cone.specs.declared.Quadrant.{Quadrant}
use Rattle.sc_ball.specs.inside.Searched.{IsSearchedTo}
use Rattle.sc_ball.specs.Searched.{entries_of}
use Rattle.sc_ball.specs.inside.Halves.{IsArcAlong}
use Rattle.sc_ball.proofs.arcs.half_of.Given as goal

abbrev pub invariant-loop-entry : goal.invariant-loop-entry
invariant-loop-entry l = record {
  split : l.yielded ++ into_iter_items l.entry-iterator ≡ l.fn.entries.items;
  left : into_iter_len l.entry-iterator ≡ length (into_iter_items l.entry-iterator);
  along : (q : Quadrant) → IsSearchedTo q l.first l.second l.fn.entries.items (length l.fn.entries.items) → IsArcAlong q l.first l.second (entries_of l.fn.entries.items) l.arc (length l.yielded);
}
