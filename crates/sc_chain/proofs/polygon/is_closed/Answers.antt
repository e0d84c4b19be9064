use Rattle.std.proofs.Common.{arith}
use Rattle.std.proofs.lemmas.Grind.{common_steps}
use Rattle.sc_chain.proofs.PolygonLaws.{closed_inside}
use Rattle.sc_chain.proofs.polygon.is_closed.Goals as goal

pub returns-clause-in_range : goal.returns-clause-in_range
returns-clause-in_range c =
    closed_inside c.args.chain.now c.args.walk.now c.goes-2.result c.goes-2.ensures.small.few_positions (grind (arith, common_steps))
