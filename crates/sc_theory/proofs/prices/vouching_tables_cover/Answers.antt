use Rattle.sc_theory.proofs.Vouching.{covers}
use Rattle.sc_theory.proofs.prices.vouching_tables_cover.Goals as goal

pub returns : goal.returns
returns c = covers
