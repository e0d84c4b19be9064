use Rattle.sc_basis.proofs.CommonDivisors.{divisor_first, divisor_next, divisor_one, divisor_positive}
use Rattle.sc_basis.proofs.divisors.divisors_by_entries.Goals as goal

pub returns : goal.returns
returns c = record { none = divisor_first; next = divisor_next; one = divisor_one; positive = divisor_positive }
