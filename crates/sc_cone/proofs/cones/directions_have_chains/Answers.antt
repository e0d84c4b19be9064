use Rattle.sc_cone.proofs.ConeWords.{is_chain, quadrant_is_chain, is_balanced}
use Rattle.sc_cone.proofs.cones.directions_have_chains.Goals as goal

pub returns : goal.returns
returns c = record {
  chains = is_chain;
  quadrants = quadrant_is_chain;
  balanced = is_balanced;
}
