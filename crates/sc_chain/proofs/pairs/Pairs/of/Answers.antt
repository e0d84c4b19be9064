use Rattle.std.proofs.Common.{arith}
use Rattle.sc_chain.proofs.PairLaws.{pairs_below}
use Rattle.sc_chain.proofs.pairs.Pairs.of.Goals as goal

pub places_of-requires-clause-pairs : goal.places_of-requires-clause-pairs
places_of-requires-clause-pairs c =
    rw (c.as_slice.ensures.value, c.in_ok-pairs.ensures, c.positions-positions.ensures.positions) (pairs_below c.args.chain.now)

pub invariant_of-result : goal.invariant_of-result
invariant_of-result c = record {
  few = omega (arith, c.positions-positions.ensures.positions, c.positions-positions.ensures.small.few_positions);
  pairs = rw (c.in_ok-pairs.ensures, c.positions-positions.ensures.positions) (pairs_below c.args.chain.now);
  places = rw c.as_slice.ensures.value at c.in_ok-places.ensures;
}
