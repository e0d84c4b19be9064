use Rattle.std.proofs.Common.{ℕ, subst}
use Rattle.sc_theory.specs.Chains.{positions}
use Rattle.sc_solve.specs.inside.ListSteps.{AreFirstTables}
use Rattle.sc_solve.proofs.ListTotals.{vouch_is, distances_are}
use Rattle.sc_solve.proofs.TableEntries.{tables_fit, entry_is}
use Rattle.sc_solve.proofs.tabling.tables_of.Goals as goal

pub returns-clause-size : goal.returns-clause-size
returns-clause-size c =
    let first : AreFirstTables c.in_ok-distances.distances (positions c.args.chain.now) c.in_ok-tables.tables =
    subst (λ (n : ℕ). AreFirstTables c.in_ok-distances.distances n c.in_ok-tables.tables) c.positions-positions.ensures.positions c.in_ok-tables.ensures in
    tables_fit c.in_ok-distances.distances (positions c.args.chain.now) c.in_ok-tables.tables c.in_ok-distances.ensures.side first

pub returns-clause-vouch : goal.returns-clause-vouch
returns-clause-vouch c =
    let first : AreFirstTables c.in_ok-distances.distances (positions c.args.chain.now) c.in_ok-tables.tables =
    subst (λ (n : ℕ). AreFirstTables c.in_ok-distances.distances n c.in_ok-tables.tables) c.positions-positions.ensures.positions c.in_ok-tables.ensures in
    vouch_is c.args.chain.now c.args.list.now c.in_ok-prices.prices c.in_ok-distances.distances c.in_ok-tables.tables c.in_ok-prices.ensures
    (entry_is c.in_ok-distances.distances (positions c.args.chain.now) c.in_ok-tables.tables c.in_ok-distances.ensures.side first) c.in_ok-distances.ensures.vouch

pub returns-clause-least : goal.returns-clause-least
returns-clause-least c =
    let first : AreFirstTables c.in_ok-distances.distances (positions c.args.chain.now) c.in_ok-tables.tables =
    subst (λ (n : ℕ). AreFirstTables c.in_ok-distances.distances n c.in_ok-tables.tables) c.positions-positions.ensures.positions c.in_ok-tables.ensures in
    distances_are c.args.chain.now c.args.list.now c.in_ok-prices.prices c.in_ok-distances.distances c.in_ok-tables.tables c.in_ok-prices.ensures
    (entry_is c.in_ok-distances.distances (positions c.args.chain.now) c.in_ok-tables.tables c.in_ok-distances.ensures.side first) c.in_ok-distances.ensures.least
