use Rattle.sc_prices.proofs.TableFlaws.{AreFlawlessBefore}
use Rattle.sc_prices.proofs.vouching.vouch.Given as goal

abbrev pub invariant-loop-start : goal.invariant-loop-start
invariant-loop-start l = AreFlawlessBefore l.chain l.list l.tables l.start
