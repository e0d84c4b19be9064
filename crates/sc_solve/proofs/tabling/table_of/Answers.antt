use Rattle.std.proofs.Common.{arith}
use Rattle.sc_solve.proofs.TableEntries.{table_small}
use Rattle.sc_solve.proofs.tabling.table_of.Goals as goal

pub of_small-requires : goal.of_small-requires
of_small-requires c =
    table_small c.args.distances.now c.args.start c.loop-place.place c.loop-place.entries.items c.loop-place.invariant (λ j inside. c.requires.small j (omega arith))
