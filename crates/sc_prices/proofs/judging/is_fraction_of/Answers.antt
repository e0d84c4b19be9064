use Rattle.std.proofs.Common.{◌*◌, pos, ◌-ℤ◌, arith}
use Rattle.std.proofs.lemmas.Int.{ints}
use Rattle.sc_prices.proofs.Failing.{value_test}
use Rattle.sc_prices.proofs.judging.is_fraction_of.Goals as goal

pub returns : goal.returns
returns c =
    value_test c.eq.result c.args.value c.fraction.result (pos c.args.counts.now.edges -ℤ pos c.args.counts.now.vertices) (pos (2 * c.args.n)) c.eq.ensures
    (omega (arith, ints, c.requires.some_copies)) c.fraction.ensures
