use Rattle.sc_chain.proofs.PairPlaces.{places_more}
use Rattle.sc_chain.proofs.pairs.places_of.Goals as goal

pub loop-place-preserved : goal.loop-place-preserved
loop-place-preserved c =
    places_more c.args.pairs.now c.args.positions c.loop-place.place c.loop-place.places.items c.requires.pairs c.loop-place-test.true c.loop-place.invariant
