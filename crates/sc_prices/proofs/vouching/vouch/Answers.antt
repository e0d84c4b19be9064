use Rattle.std.proofs.Common.{refl, arith}
use Rattle.std.proofs.lemmas.Bool.{false≢true}
use Rattle.sc_prices.proofs.TableFlaws.{all_tables, vouch_flawless}
use Rattle.sc_prices.proofs.vouching.vouch.Goals as goal

pub returns-in-Some-clause-exactly : goal.returns-in-Some-clause-exactly
returns-in-Some-clause-exactly c = (
  λ e. absurd (false≢true e),
  λ vouched. absurd (vouch_flawless c.args.chain.now c.args.list.now c.args.tables.now vouched c.in-Some.flaw c.in-Some.ensures.here),
)

pub returns-clause-exactly : goal.returns-clause-exactly
returns-clause-exactly c = (
  λ _.
      all_tables c.args.chain.now c.args.list.now c.args.tables.now c.loop-start.start (omega (arith, c.positions-start-end.ensures.positions, c.loop-start-test.false))
      c.loop-start.invariant,
  λ _. refl,
)
