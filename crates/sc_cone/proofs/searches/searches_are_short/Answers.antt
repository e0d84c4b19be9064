use Rattle.sc_cone.proofs.ShortSweeps.{short}
use Rattle.sc_cone.proofs.searches.searches_are_short.Goals as goal

pub returns : goal.returns
returns c = λ q first second rs n sweep small. short q first second rs sweep n small
