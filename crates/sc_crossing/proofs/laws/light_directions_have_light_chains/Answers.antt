use Rattle.sc_crossing.proofs.Lengths.{chain_light, direction_light}
use Rattle.sc_crossing.proofs.laws.light_directions_have_light_chains.Goals as goal

pub returns : goal.returns
returns c = λ q first second d. (chain_light q first second d, direction_light q first second d)
