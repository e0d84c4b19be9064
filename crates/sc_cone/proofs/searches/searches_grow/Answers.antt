use Rattle.sc_cone.proofs.Sweeps.{grown_at}
use Rattle.sc_cone.proofs.searches.searches_grow.Goals as goal

pub returns : goal.returns
returns c = grown_at
