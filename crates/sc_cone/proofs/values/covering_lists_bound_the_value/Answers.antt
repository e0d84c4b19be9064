use Rattle.sc_cone.proofs.ConeChains.{covers_all}
use Rattle.sc_cone.proofs.ConeWords.{is_chain}
use Rattle.sc_cone.proofs.ValueLaws.{at_most}
use Rattle.sc_cone.specs.Cones.{chain_of}
use Rattle.sc_cone.proofs.values.covering_lists_bound_the_value.Goals as goal

pub returns : goal.returns
returns c = record {
  chains = at_most;
  directions = λ q first second list d num den is_first is_second covers value.
      at_most (chain_of q first second d) list num den (is_chain q first second d is_first is_second) ((covers_all q first second list d).0 covers) value;
}
