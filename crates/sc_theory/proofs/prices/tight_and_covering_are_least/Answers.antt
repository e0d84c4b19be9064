use Rattle.sc_theory.proofs.Leastness.{least}
use Rattle.sc_theory.proofs.Vouching.{covers}
use Rattle.sc_theory.proofs.prices.tight_and_covering_are_least.Goals as goal

pub returns : goal.returns
returns c = record {
  covering = least;
  vouched = λ c list tables n g chain above vouch is tight. least c list n g chain above (covers c list tables above vouch) is tight;
}
