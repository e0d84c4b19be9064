use Rattle.std.proofs.Common.{ℕ, get_or, arith}
use Rattle.sc_shape.specs.SideLists.{is_own}
use Rattle.sc_shape.proofs.Tallying.{tally_small}
use Rattle.sc_shape.proofs.tallies.tally_inner.Goals as goal

pub overflow_add-counts : goal.overflow_add-counts
overflow_add-counts c =
    let least = c.args.least.now in
    let s : ℕ = c.loop-number.number in
    omega (arith, tally_small (is_own c.args.inner.now) least c.loop-number.counts s (get_or least s 0) c.loop-number.invariant (c.requires.inside s c.loop-number-test.true), c.loop-number-test.true, c.requires.few)
