use Rattle.sc_cone.proofs.Sweeps.{search_is_sweep, gap_in}
use Rattle.sc_cone.proofs.searches.searches_go_round.Goals as goal

pub returns : goal.returns
returns c = record {
  sweep = λ q first second rs is_first is_second search. search_is_sweep q first second is_first is_second rs search;
  gaps = gap_in;
}
