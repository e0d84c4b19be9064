use Rattle.sc_basis.specs.Products.{at}
use Rattle.sc_basis.specs.Divisors.{IsCommonDivisor}
use Rattle.sc_rows.proofs.lists.common_divisor.Given as goal

abbrev pub invariant-loop-index : goal.invariant-loop-index
invariant-loop-index l = record { divisor : IsCommonDivisor l.index (at l.entries) l.den l.divisor }
