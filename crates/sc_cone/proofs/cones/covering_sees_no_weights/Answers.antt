use Rattle.sc_cone.proofs.ConeChains.{covers_all}
use Rattle.sc_cone.proofs.cones.covering_sees_no_weights.Goals as goal

pub returns : goal.returns
returns c = covers_all
