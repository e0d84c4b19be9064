use Rattle.std.proofs.Common.{subst}
use Rattle.sc_solve.specs.PriceLevels.{price_levels, threshold_of}
use Rattle.sc_solve.specs.inside.Searches.{MatchCheap}
use Rattle.sc_solve.proofs.PolygonPrices.{none_improves}
use Rattle.sc_solve.proofs.SearchLaws.{answer_is}
use Rattle.sc_solve.proofs.searching.improving_column.Goals as goal

pub returns-in_ok-column-in-Some-clause-answer : goal.returns-in_ok-column-in-Some-clause-answer
returns-in_ok-column-in-Some-clause-answer c =
    answer_is c.args.chain.now c.args.prices.now c.in-Some.polygon c.in_ok-column-in-Some.column.key.items c.in_ok-column-in-Some.column.entries.items c.cheap_at.ensures.chain
    (subst (MatchCheap c.args.chain.now (price_levels c.args.chain.now c.args.prices.now) (threshold_of c.args.prices.now)) c.in-Some.is c.in_ok-found.ensures.found)
    c.in_ok-column-in-Some.ensures.key c.in_ok-column-in-Some.ensures.column

pub returns-in-None-clause-answer : goal.returns-in-None-clause-answer
returns-in-None-clause-answer c =
    none_improves c.args.chain.now c.cheap_at.ensures.chain c.args.prices.now
    (subst (MatchCheap c.args.chain.now (price_levels c.args.chain.now c.args.prices.now) (threshold_of c.args.prices.now)) c.in-None.is c.in_ok-found.ensures.found)
