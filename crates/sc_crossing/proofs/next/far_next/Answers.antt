use Rattle.std.proofs.Common.{sym, ◌∙◌, true≢false}
use Rattle.sc_crossing.specs.Neighbours.{reached_of, direction_of}
use Rattle.sc_crossing.proofs.Neighbours.{sum_next}
use Rattle.sc_crossing.proofs.next.far_next.Goals as goal

pub returns-else-are_inside-clause-next : goal.returns-else-are_inside-clause-next
returns-else-are_inside-clause-next c =
    sum_next c.args.quadrant c.args.first.now c.args.second.now (reached_of c.args.from.now) (reached_of c.args.to.now) (direction_of c.primitive_sum.result)
    c.requires (λ both. true≢false (sym (c.are_inside.ensures.1 both) ∙ c.if-are_inside.false)) c.primitive_sum.ensures.primitive c.primitive_sum.ensures.sum
