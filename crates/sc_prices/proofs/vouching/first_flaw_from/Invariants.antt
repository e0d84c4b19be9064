use Rattle.sc_prices.proofs.TableFlaws.{AreStepsFlawless}
use Rattle.sc_prices.proofs.vouching.first_flaw_from.Given as goal

abbrev pub invariant-loop-from : goal.invariant-loop-from
invariant-loop-from l = AreStepsFlawless l.chain l.list l.tables l.start l.from
