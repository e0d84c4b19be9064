use Rattle.sc_fatgraph.proofs.FlawLaws.{fatgraph_is, fatgraph_has_none}
use Rattle.sc_fatgraph.proofs.laws.sides_without_flaw.Goals as goal

pub returns : goal.returns
returns c = λ chain n g some. (fatgraph_is chain n g some, fatgraph_has_none chain n g)
