use Rattle.std.proofs.Common.{length, sym, ap, ◌∙◌}
use Rattle.sc_solve.proofs.PartLoops.{length-counts}
use Rattle.sc_solve.proofs.assembling.glued.Goals as goal

pub glue-requires-clause-as_many : goal.glue-requires-clause-as_many
glue-requires-clause-as_many c =
    length-counts c.in_ok-counted.counted.n c.args.parts.items c.in_ok-counted.counted.counts.items c.in_ok-counted.ensures.counts ∙ ap length (sym c.in_ok-counted.ensures.parts)
