use Rattle.std.proofs.Common.{ap, ◌∙◌}
use Rattle.sc_theory.specs.Prices.{pairs}
use Rattle.sc_cone.specs.Directions.{up}
use Rattle.sc_ball_refusal.proofs.Pieces.{pairs_of_direction}
use Rattle.sc_ball_refusal.proofs.search.chain_of_quadrant.Goals as goal

pub returns : goal.returns
returns c = ap pairs c.in_ok-chain.ensures ∙ pairs_of_direction c.args.quadrant c.args.first.now c.args.second.now up
