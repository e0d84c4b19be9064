use Rattle.sc_prices.proofs.Failing.{one_failing, none_failing}
use Rattle.sc_prices.proofs.laws.one_first_failing.Goals as goal

pub returns : goal.returns
returns c = record { one = one_failing; none = none_failing }
