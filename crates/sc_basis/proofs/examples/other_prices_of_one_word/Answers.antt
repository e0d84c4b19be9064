use Rattle.sc_basis.proofs.SmallBases.{wrong_scale_refused, doubled_gives, doubled_refused}
use Rattle.sc_basis.proofs.examples.other_prices_of_one_word.Goals as goal

pub returns-clause-scale : goal.returns-clause-scale
returns-clause-scale c = wrong_scale_refused

pub returns-clause-products : goal.returns-clause-products
returns-clause-products c = doubled_gives

pub returns-clause-divisor : goal.returns-clause-divisor
returns-clause-divisor c = doubled_refused
