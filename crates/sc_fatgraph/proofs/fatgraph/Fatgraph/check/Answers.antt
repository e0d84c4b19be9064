use Rattle.std.proofs.Common.{rules}
use Rattle.sc_theory.proofs.FatgraphLaws.{balanced}
use Rattle.sc_fatgraph.proofs.fatgraph.Fatgraph.check.Goals as goal

pub returns-in-None-clause-balanced : goal.returns-in-None-clause-balanced
returns-in-None-clause-balanced c = balanced c.args.chain c.args.n c.args.sides (search rules)
