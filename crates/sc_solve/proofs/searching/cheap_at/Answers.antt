use Rattle.std.proofs.Common.{sym, subst, FitsSigned, to_z-of_z, rules}
use Rattle.std.specs.Int.{w128}
use Rattle.sc_rows.specs.Places.{IsWideBy}
use Rattle.sc_tables.specs.StepPrices.{price_in}
use Rattle.sc_solve.specs.inside.PriceLevels.{levels_of}
use Rattle.sc_solve.specs.PriceLevels.{price_levels, threshold_of}
use Rattle.sc_solve.specs.Searches.{IsWideSearch}
use Rattle.sc_solve.proofs.SearchLaws.{match_same, table_fault_is}
use Rattle.sc_solve.proofs.searching.cheap_at.Goals as goal

pub returns-in-Ok-clause-found : goal.returns-in-Ok-clause-found
returns-in-Ok-clause-found c =
    let fits : FitsSigned w128 c.args.prices.now.fine.scale = search rules in
    let found = simp (to_z-of_z fits) at c.in-Ok.ensures.found in
    match_same c.args.chain.now (price_in levels_of c.in_ok-steps.steps) (price_levels c.args.chain.now c.args.prices.now) (threshold_of c.args.prices.now) c.in_ok-steps.ensures.prices c.in-Ok.found found

pub returns-clause-faults : goal.returns-clause-faults
returns-clause-faults c =
    subst (IsWideBy (IsWideSearch c.args.chain.now c.args.prices.now)) (sym c.walk_refusal.ensures)
    (table_fault_is c.args.chain.now c.args.prices.now (price_in levels_of c.in_ok-steps.steps) c.in_ok-steps.ensures.prices c.in-Err.fault c.in-Err.ensures.faults)
