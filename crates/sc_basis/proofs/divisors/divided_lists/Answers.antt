use Rattle.sc_basis.proofs.CommonDivisors.{divided_by}
use Rattle.sc_basis.proofs.divisors.divided_lists.Goals as goal

pub returns : goal.returns
returns c = record { reduced = divided_by }
