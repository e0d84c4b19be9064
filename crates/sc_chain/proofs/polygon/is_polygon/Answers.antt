use Rattle.std.proofs.Common.{rules, sym, ◌∙◌}
use Rattle.std.proofs.lemmas.Bool.{false≢true}
use Rattle.sc_chain.proofs.PolygonLaws.{small_if}
use Rattle.sc_chain.proofs.polygon.is_polygon.Goals as goal
use Rattle.sc_chain.proofs.polygon.is_polygon.Goals.{then-is_closed, else-is_closed}

pub returns-then-is_from_least-clause-small : goal.returns-then-is_from_least-clause-small
returns-then-is_from_least-clause-small c = elim c.if-is_closed.branch [
  | then-is_closed w ↦ small_if c.args.chain.now c.args.walk.now c.is_simple.result c.is_closed.result w.if-is_closed.true c.is_closed.ensures.in_range (search rules)
  | else-is_closed w ↦ absurd (false≢true (sym w.if-is_closed.false ∙ sym w.value-is ∙ c.if-is_from_least.true))
]
