use Rattle.std.proofs.Common.{take}
use Rattle.sc_chain.specs.PairPlaces.{ArePlacesOf}
use Rattle.sc_chain.proofs.pairs.places_of.Given as goal

abbrev pub invariant-loop-place : goal.invariant-loop-place
invariant-loop-place l = ArePlacesOf (take l.place l.pairs) l.positions l.places.items
