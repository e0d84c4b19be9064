use Rattle.std.proofs.Common.{Some, rules}
use Rattle.sc_chain.specs.declared.sign.Sign.TheVariants.{Plus}
use Rattle.sc_chain.proofs.PairLaws.{row_says}
use Rattle.sc_chain.proofs.pairs.Pairs.row_of.Goals as goal

pub returns-in-Some-clause-inverse : goal.returns-in-Some-clause-inverse
returns-in-Some-clause-inverse c = λ ch e hp hq.
    row_says ch c.args.self.now c.args.p c.args.q (Some (c.in-Some.row, Plus)) e (search rules) hp hq

pub returns-in-None-clause-inverse : goal.returns-in-None-clause-inverse
returns-in-None-clause-inverse c = λ ch e hp hq.
    row_says ch c.args.self.now c.args.p c.args.q c.map.result e (search rules) hp hq
