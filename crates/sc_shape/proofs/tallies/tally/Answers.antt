use Rattle.std.proofs.Common.{true, ℕ, get_or, arith}
use Rattle.sc_shape.proofs.Tallying.{tally_small}
use Rattle.sc_shape.proofs.tallies.tally.Goals as goal

pub overflow_add-counts : goal.overflow_add-counts
overflow_add-counts c =
    let least = c.args.least.now in
    let s : ℕ = c.loop-class.class-index in
    omega (arith, tally_small (λ _. true) least c.loop-class.counts s (get_or least s 0) c.loop-class.invariant (c.requires.inside s c.loop-class-test.true), c.loop-class-test.true, c.requires.few)
