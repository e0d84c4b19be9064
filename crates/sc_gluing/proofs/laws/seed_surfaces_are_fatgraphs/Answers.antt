use Rattle.sc_gluing.proofs.SeedLaws.{seed_fatgraph}
use Rattle.sc_gluing.proofs.laws.seed_surfaces_are_fatgraphs.Goals as goal

pub returns : goal.returns
returns c = λ c g chain balanced is. seed_fatgraph c chain balanced g is
