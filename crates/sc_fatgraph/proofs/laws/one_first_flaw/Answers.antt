use Rattle.sc_fatgraph.proofs.FlawLaws.{first_flaw_alone}
use Rattle.sc_fatgraph.proofs.laws.one_first_flaw.Goals as goal

pub returns : goal.returns
returns c = λ chain n g k l p q a b. first_flaw_alone chain n g k l p q a b
