use Rattle.std.proofs.Common.{◌∙◌, ℕ, ℤ, arith, sym, ap}
use Rattle.std.proofs.lemmas.Result.{IfOk-weaker, IfErr-weaker}
use Rattle.sc_theory.specs.Chains.{Chain}
use Rattle.sc_theory.specs.Columns.{rows}
use Rattle.sc_basis.specs.Products.{IsNonNegative}
use Rattle.sc_simplex.specs.Optima.{IsOptimum, IsSumOfColumns, IsStopped as IsSimplexStopped}
use Rattle.sc_solve.specs.PolygonColumns.{IsPolygonColumn}
use Rattle.sc_solve.specs.Searches.{IsWideSearch}
use Rattle.sc_solve.proofs.LastBases.{right_side_positive}
use Rattle.sc_solve.proofs.EndingLaws.{rows_few, side_size, balance_of, over_side, for_side}
use Rattle.sc_solve.proofs.ending.optimal_basis.Goals as goal

pub solve-requires-clause-few : goal.solve-requires-clause-few
solve-requires-clause-few c = omega (arith, side_size c.args.chain.now c.in-Ok.side.items c.in-Ok.ensures, rows_few c.args.chain.now c.check_chain.ensures)

pub solve-requires-clause-size : goal.solve-requires-clause-size
solve-requires-clause-size c = ap rows c.in-Ok-oracle_of.ensures ∙ sym (side_size c.args.chain.now c.in-Ok.side.items c.in-Ok.ensures)

pub solve-requires-clause-not_negative : goal.solve-requires-clause-not_negative
solve-requires-clause-not_negative c =
    for_side c.args.chain.now c.in-Ok-oracle_of.oracle c.in-Ok.side.items c.in-Ok-oracle_of.ensures c.in-Ok.ensures
    (λ (d : Chain) (r : ℕ) (b : ℕ → ℤ). IsNonNegative r b) (right_side_positive c.args.chain.now)

pub solve-requires-clause-feasible : goal.solve-requires-clause-feasible
solve-requires-clause-feasible c =
    for_side c.args.chain.now c.in-Ok-oracle_of.oracle c.in-Ok.side.items c.in-Ok-oracle_of.ensures c.in-Ok.ensures
    (λ (d : Chain) (r : ℕ) (b : ℕ → ℤ). IsSumOfColumns (IsPolygonColumn d) r b) (balance_of c.args.chain.now c.check_chain.ensures.chain c.requires.balanced)

pub returns-clause-optimum : goal.returns-clause-optimum
returns-clause-optimum c =
    IfOk-weaker c.solve.result _ _
    (λ o is. over_side c.args.chain.now c.in-Ok-oracle_of.oracle c.in-Ok.side.items c.in-Ok-oracle_of.ensures c.in-Ok.ensures
    (λ (d : Chain) (r : ℕ) (b : ℕ → ℤ). IsOptimum (IsPolygonColumn d) r b c.args.budget o) is)
    c.solve.ensures.optimum

pub returns-clause-stopped : goal.returns-clause-stopped
returns-clause-stopped c =
    IfErr-weaker c.solve.result _ _
    (λ fault is. over_side c.args.chain.now c.in-Ok-oracle_of.oracle c.in-Ok.side.items c.in-Ok-oracle_of.ensures c.in-Ok.ensures
    (λ (d : Chain) (r : ℕ) (b : ℕ → ℤ). IsSimplexStopped (IsPolygonColumn d) (IsWideSearch d) r b c.args.budget fault) is)
    c.solve.ensures.stopped
