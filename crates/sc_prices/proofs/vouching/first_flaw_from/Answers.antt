use Rattle.sc_prices.proofs.TableFlaws.{one_begin_more}
use Rattle.sc_prices.proofs.vouching.first_flaw_from.Goals as goal

pub loop-from-preserved : goal.loop-from-preserved
loop-from-preserved c =
    one_begin_more c.args.chain.now c.args.list.now c.args.tables.now c.args.start c.loop-from.from c.loop-from.invariant c.in_default.ensures
