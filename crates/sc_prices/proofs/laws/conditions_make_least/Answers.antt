use Rattle.sc_prices.proofs.Failing.{all_make_least}
use Rattle.sc_prices.proofs.laws.conditions_make_least.Goals as goal

pub returns : goal.returns
returns c = all_make_least
