use Rattle.sc_algebra.proofs.Cycles.{period}
use Rattle.sc_theory.proofs.FatgraphLaws.{turn_permutes}
use Rattle.sc_theory.proofs.OrbitWalks.{turn_steps, orbit_walks}
use Rattle.sc_theory.proofs.fatgraphs.orbits_are_closed_walks.Goals as goal

pub returns : goal.returns
returns c = record {
  permutes = turn_permutes;
  comes_back = λ c n g s is inside. period (turn_permutes c n g is) s inside;
  steps = λ c n g s is inside. turn_steps c n g is s inside;
  orbits = λ c n g s k is inside. orbit_walks c n g is s k inside;
}
