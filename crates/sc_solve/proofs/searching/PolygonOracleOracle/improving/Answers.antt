use Rattle.std.proofs.Common.{IfOk, subst}
use Rattle.sc_theory.specs.Chains.{Chain}
use Rattle.sc_theory.specs.Columns.{rows}
use Rattle.sc_simplex.specs.Oracles.{MatchAnswer, ImprovesAt, NoneImproves}
use Rattle.sc_solve.specs.PolygonColumns.{IsPolygonColumn}
use Rattle.sc_solve.proofs.searching.PolygonOracleOracle.improving.Goals as goal

pub returns-clause-answer : goal.returns-clause-answer
returns-clause-answer c =
    subst
    (λ (ch : Chain). IfOk c.answer_at.result (λ answer. MatchAnswer answer (λ key e. IsPolygonColumn ch key e × ImprovesAt (rows ch) c.args.prices.now e) (NoneImproves (IsPolygonColumn ch) (rows ch) c.args.prices.now)))
    c.self.view_is c.answer_at.ensures.answer
