use Rattle.std.proofs.Common.{Some, sym, ◌∙◌, length}
use Rattle.sc_tables.proofs.Best.{closes_from, reach_from, reach_none, found-along}
use Rattle.std.proofs.Common.{refl}
use Rattle.sc_tables.proofs.search.closing.Goals as goal

pub returns-in-Some-clause-closes : goal.returns-in-Some-clause-closes
returns-in-Some-clause-closes g c =
    let found = found-along g.W.Weight.levels c.args.prices.now c.args.nodes.now c.args.nodes.now c.args.fresh (length c.args.nodes.now) c.args.start c.in_ok-best.field-0 (Some c.in-Some.best) refl c.in-Some.is c.in_ok-best.ensures.found in
    closes_from g.W.Weight.levels c.args.prices.now c.args.nodes.now (g.W.Weight.levels c.args.threshold.now) c.args.fresh c.args.start c.in-Some.best found.1
    (sym c.is_below.ensures ∙ c.if-is_below.true)

pub returns-in_default-clause-reach : goal.returns-in_default-clause-reach
returns-in_default-clause-reach g c =
    reach_from g.W.Weight.levels c.args.prices.now c.args.nodes.now (g.W.Weight.levels c.args.threshold.now) c.args.fresh c.args.start c.in_ok-best.field-0 c.in-Some.best c.in-Some.is c.in_ok-best.ensures.under_each
    (sym c.is_below.ensures ∙ c.if-is_below.false)

pub returns-in_default-2-clause-reach : goal.returns-in_default-2-clause-reach
returns-in_default-2-clause-reach g c =
    reach_none g.W.Weight.levels c.args.prices.now c.args.nodes.now (g.W.Weight.levels c.args.threshold.now) c.args.fresh c.args.start c.in_ok-best.field-0 c.in_default.is c.in_ok-best.ensures.under_each
