use Rattle.sc_gluing.proofs.Linking.{ArePaired}
use Rattle.sc_gluing.proofs.matching.pair_up.Given as goal

abbrev pub invariant-loop-kind : goal.invariant-loop-kind
invariant-loop-kind l = ArePaired l.kinds l.opposites l.kind-index l.cursors l.partners.items
